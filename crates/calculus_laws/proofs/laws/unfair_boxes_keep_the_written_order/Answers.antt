use Rattle.calculus_laws.proofs.KeptTypes.{orders_kept}
use Rattle.calculus_laws.proofs.SameNets.{lockstep_written, start_written}
use Rattle.calculus_laws.proofs.laws.unfair_boxes_keep_the_written_order.Goals as goal

pub returns-clause-starts : goal.returns-clause-starts
returns-clause-starts c = start_written

pub returns-clause-supersteps : goal.returns-clause-supersteps
returns-clause-supersteps c = lockstep_written

pub returns-clause-steps : goal.returns-clause-steps
returns-clause-steps c = orders_kept
