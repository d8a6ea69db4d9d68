use Rattle.log_rounds.proofs.LawsOfLogs.{blocked_is, held_is, log_blocks, log_holds, other_fails}
use Rattle.log_rounds.proofs.laws.logs_hold_exactly.Goals as goal

pub returns-clause-holds : goal.returns-clause-holds
returns-clause-holds c = λ core inputs steps text outcome is.
    (held_is core inputs steps text outcome is, (λ both. log_holds core inputs steps text outcome is both.0 both.1))

pub returns-clause-fails : goal.returns-clause-fails
returns-clause-fails c = λ core inputs steps text outcome is none other. other_fails core inputs steps text outcome is none other

pub returns-clause-blocked : goal.returns-clause-blocked
returns-clause-blocked c = λ core inputs steps text outcome is.
    (blocked_is core inputs steps text outcome is, log_blocks core inputs steps text outcome is)
