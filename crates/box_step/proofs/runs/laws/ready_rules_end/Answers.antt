use Rattle.box_step.proofs.runs_lemmas.Ends.{ends_in_room}
use Rattle.box_step.proofs.runs.laws.ready_rules_end.Goals as goal

pub returns : goal.returns
returns c core b rule ins types program number m ready = ends_in_room ready
