use Rattle.hume_net.proofs.rounds_lemmas.PieceSteps.{lockstep_piece}
use Rattle.hume_net.proofs.rounds.laws.pieces_go_on_as_the_whole.Goals as goal

pub returns : goal.returns
returns c core earlier later steps piece whole filled is_piece = lockstep_piece core earlier later steps piece whole filled is_piece
