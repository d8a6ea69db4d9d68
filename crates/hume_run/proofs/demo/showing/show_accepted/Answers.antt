use Rattle.hume_run.proofs.DemoShown.{demo_told, demo_failed}
use Rattle.hume_run.proofs.demo.showing.show_accepted.Goals as goal

pub returns-in-Ok-told : goal.returns-in-Ok-told
returns-in-Ok-told g c = demo_told c.args.steps _ _ _ _ c.in-Ok.ensures.core c.in-Ok-told.ensures

pub returns-in-Err : goal.returns-in-Err
returns-in-Err g c = demo_failed c.args.steps _ _ _ _ c.in-Ok.ensures.core c.in-Err.ensures
