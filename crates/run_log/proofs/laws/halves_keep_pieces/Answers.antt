use Rattle.hume_net.proofs.rounds_lemmas.Completing.{mid_piece, up_piece}
use Rattle.run_log.proofs.Pieces.{forgotten_piece, same_block}
use Rattle.run_log.proofs.laws.halves_keep_pieces.Goals as goal

pub returns-clause-blocks : goal.returns-clause-blocks
returns-clause-blocks c = λ core earlier later piece whole is half superstep. same_block core earlier later piece whole is half superstep

pub returns-clause-forgotten : goal.returns-clause-forgotten
returns-clause-forgotten c = λ core earlier later piece whole is. forgotten_piece core earlier later piece whole is

pub returns-clause-mid : goal.returns-clause-mid
returns-clause-mid c = λ core earlier later piece whole is. mid_piece core earlier later piece whole is

pub returns-clause-up : goal.returns-clause-up
returns-clause-up c = λ core earlier later piece whole is filled. up_piece core earlier later piece whole is filled
