use Rattle.hume_net.proofs.AllOutputs.{lockstep_all, middle_all}
use Rattle.hume_net.proofs.laws.locksteps_have_all_outputs.Goals as goal

pub returns-clause-whole : goal.returns-clause-whole
returns-clause-whole c = lockstep_all

pub returns-clause-middle : goal.returns-clause-middle
returns-clause-middle c = middle_all
