use Rattle.box_step.proofs.runs_lemmas.Ends.{ends_in_room}
use Rattle.box_step.proofs.runs_lemmas.HaveRun.{has_run}
use Rattle.box_step.proofs.runs.runs.run_ready_rule.Goals as goal

pub run_rule-requires-clause-ends : goal.run_rule-requires-clause-ends
run_rule-requires-clause-ends c = ends_in_room c.requires.4

pub returns : goal.returns
returns c core b fired ins ready =
    let e = c.run_rule.ensures in
    has_run ready _ _ _ _ _ e.heap e.stack e.outputs e.work e.answer
