use Rattle.hume_net.proofs.rounds_lemmas.Kept.{piece_typed, piece_outputs, piece_within}
use Rattle.hume_net.proofs.rounds.laws.pieces_keep_what_the_whole_keeps.Goals as goal

pub returns-clause-types : goal.returns-clause-types
returns-clause-types c core earlier later piece whole it = piece_typed core earlier later piece whole it

pub returns-clause-outputs : goal.returns-clause-outputs
returns-clause-outputs c core earlier later piece whole it = piece_outputs core earlier later piece whole it

pub returns-clause-depths : goal.returns-clause-depths
returns-clause-depths c core earlier later piece whole it = piece_within core earlier later piece whole it
