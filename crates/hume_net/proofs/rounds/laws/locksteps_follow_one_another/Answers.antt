use Rattle.hume_net.proofs.rounds_lemmas.Sums.{lockstep_sum}
use Rattle.hume_net.proofs.rounds.laws.locksteps_follow_one_another.Goals as goal

pub returns : goal.returns
returns c = lockstep_sum
