use Rattle.std.proofs.Common.{rules, refl, ap, ◌∙◌, subst, Err}
use Rattle.space_costs.specs.NodeCosts.{IsCostError}
use Rattle.hume_run.proofs.Ending.{box_refused, out_before, ran, stream_refused}
use Rattle.hume_calls.proofs.Rewritten.{new_ready}
use Rattle.hume_run.proofs.calc.run_new.Goals as goal

pub run_ready-requires-clause-ready : goal.run_ready-requires-clause-ready
run_ready-requires-clause-ready g c κs within =
    new_ready _ _ _ c.requires.runnable c.requires.handles c.requires.wiring c.in-Ok.ensures.costs c.in-Ok.ensures.fine

pub returns-in-Ok-find_places : goal.returns-in-Ok-find_places
returns-in-Ok-find_places g c first lines port made only =
    ran _ _ _ _ _ _ _ _ made _ only c.in-Ok.ensures.fine _ c.in-Ok-find_places.ensures.fit c.run_ready.ensures

pub returns-in-Err-Refused : goal.returns-in-Err-Refused
returns-in-Err-Refused g c first lines port made only = box_refused _ _ _ _ _ _ _ _ made c.in-Err-Refused.refusal _
    (subst (IsCostError c.args.core) c.in-Err-Refused.field-0-is c.in-Err-Refused.ensures.refused) c.refuse.ensures

pub returns-in-Err-Unfit : goal.returns-in-Err-Unfit
returns-in-Err-Unfit g c first lines port made only =
    stream_refused _ _ _ _ _ _ _ _ made _ only c.in-Ok.ensures.fine c.in-Err-Unfit.line _ _
    (c.find_places.ensures.unfit c.in-Err-Unfit.line (c.in-Err-Unfit.is ∙ ap Err c.in-Err-Unfit.field-0-is)) (search rules) c.refuse-in-Err-Unfit.ensures

pub returns-in-Err-NoMemory : goal.returns-in-Err-NoMemory
returns-in-Err-NoMemory g c first lines port made only = out_before _ _ _ _ _ _ _ refl
