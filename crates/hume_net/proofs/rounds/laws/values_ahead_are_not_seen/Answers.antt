use Rattle.hume_net.proofs.rounds_lemmas.AheadOfStreams.{lockstep_alike_up_to, same_asserted}
use Rattle.hume_net.proofs.rounds.laws.values_ahead_are_not_seen.Goals as goal

pub returns-clause-alike : goal.returns-clause-alike
returns-clause-alike c core count more s t alike = lockstep_alike_up_to core count more s t alike

pub returns-clause-asserted : goal.returns-clause-asserted
returns-clause-asserted c core count s t alike n node is = same_asserted core count s t alike n node is
