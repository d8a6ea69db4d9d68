use Rattle.hume_net.proofs.rounds_lemmas.Clearing.{gained_cleared, taken_grows, lockstep_cleared}
use Rattle.hume_net.proofs.rounds.laws.taken_values_only_grow.Goals as goal

pub returns-clause-grow : goal.returns-clause-grow
returns-clause-grow c core state k n node is = taken_grows core state k n node is

pub returns-clause-gain : goal.returns-clause-gain
returns-clause-gain c core state k n node is = gained_cleared core state k n node is

pub returns-clause-rest : goal.returns-clause-rest
returns-clause-rest c core state k = lockstep_cleared core state k
