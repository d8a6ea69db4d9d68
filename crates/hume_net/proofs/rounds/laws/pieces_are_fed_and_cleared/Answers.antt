use Rattle.hume_net.proofs.rounds_lemmas.Rounds.{start_piece, fed_piece, clear_piece}
use Rattle.hume_net.proofs.rounds.laws.pieces_are_fed_and_cleared.Goals as goal

pub returns-clause-start : goal.returns-clause-start
returns-clause-start c core coming = start_piece core coming

pub returns-clause-fed : goal.returns-clause-fed
returns-clause-fed c core earlier later values piece whole it = fed_piece core earlier later piece whole values it

pub returns-clause-cleared : goal.returns-clause-cleared
returns-clause-cleared c core earlier later piece whole it = clear_piece core earlier later piece whole it
