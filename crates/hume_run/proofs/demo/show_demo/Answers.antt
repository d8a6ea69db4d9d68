use Rattle.std.proofs.Common.{◌∙◌}
use Rattle.hume_run.proofs.DemoShown.{shown, unshown}
use Rattle.hume_run.proofs.demo.show_demo.Goals as goal

pub show_accepted-requires-clause-accepted : goal.show_accepted-requires-clause-accepted
show_accepted-requires-clause-accepted g c κs within = (_, c.in-Ok-accept.ensures.accepted)

pub returns-in-Ok-accept : goal.returns-in-Ok-accept
returns-in-Ok-accept g c = shown c.args.number c.args.steps _ _ _ _ c.in-Ok-accept.accepted (c.deref.ensures.value ∙ c.in-Ok.ensures)
    c.in-Ok-accept.ensures.accepted c.show_accepted.ensures

pub returns : goal.returns
returns g c = unshown c.args.number c.args.steps _ _ _ _ (c.deref.ensures.value ∙ c.in-Ok.ensures) (c.end_unaccepted.ensures _ c.in-Err.ensures.error)
