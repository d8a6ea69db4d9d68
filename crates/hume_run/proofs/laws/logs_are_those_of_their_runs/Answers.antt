use Rattle.hume_run.proofs.LogLaws.{recorded, verified_blocked, verified_fails, verified_holds}
use Rattle.hume_run.proofs.laws.logs_are_those_of_their_runs.Goals as goal

pub returns-clause-recorded : goal.returns-clause-recorded
returns-clause-recorded c core coming steps log = recorded core coming steps log (c.records_are_logs.ensures.log core coming log steps)

pub returns-clause-holds : goal.returns-clause-holds
returns-clause-holds c core coming steps log text owed owes =
    verified_holds core coming steps log text owed owes (c.logs_hold_exactly.ensures.holds core coming steps text owes.0 owes.1)

pub returns-clause-fails : goal.returns-clause-fails
returns-clause-fails c core coming steps log text owed owes =
    verified_fails core coming steps log text owed owes (c.logs_hold_exactly.ensures.holds core coming steps text owes.0 owes.1)
    (c.logs_hold_exactly.ensures.fails core coming steps text owes.0 owes.1)

pub returns-clause-blocked : goal.returns-clause-blocked
returns-clause-blocked c core coming steps log text owed owes =
    verified_blocked core coming steps log text owed owes (c.logs_hold_exactly.ensures.blocked core coming steps text owes.0 owes.1)
