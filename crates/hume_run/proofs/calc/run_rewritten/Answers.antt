use Rattle.hume_run.proofs.Ending.{line_refused}
use Rattle.hume_calls.proofs.Rewritten.{few_nodes, new_handles, new_runnable, new_wiring}
use Rattle.hume_run.proofs.calc.run_rewritten.Goals as goal

pub run_script-requires : goal.run_script-requires
run_script-requires g c = few_nodes _ _ c.requires.sound.1

pub run_new-requires-clause-runnable : goal.run_new-requires-clause-runnable
run_new-requires-clause-runnable g c κs within = new_runnable _ c.args.sound c.requires.sound.1 c.args.script.now _ c.in-Ok.ensures.new

pub run_new-requires-clause-handles : goal.run_new-requires-clause-handles
run_new-requires-clause-handles g c κs within = new_handles _ c.args.sound c.requires.sound.1 c.args.script.now _ c.in-Ok.ensures.new

pub run_new-requires-clause-wiring : goal.run_new-requires-clause-wiring
run_new-requires-clause-wiring g c κs within = new_wiring _ c.args.sound c.requires.sound.1 c.args.script.now _ c.in-Ok.ensures.new

pub returns-in-Ok : goal.returns-in-Ok
returns-in-Ok g c port only = c.run_new.ensures _ _ port c.in-Ok.ensures.new only

pub returns : goal.returns
returns g c port only = line_refused _ _ _ _ _ _ _ _ _ c.in-Err.ensures.refused c.end_script.ensures.told c.end_script.ensures.memory
