use Rattle.hume_calls.proofs.RunOpened.{is_open}
use Rattle.hume_calls.proofs.run.opening.open.Goals as goal

pub make_running-requires-clause-runnable : goal.make_running-requires-clause-runnable
make_running-requires-clause-runnable c = c.requires.ready.runnable

pub make_running-requires-clause-handles : goal.make_running-requires-clause-handles
make_running-requires-clause-handles c = c.requires.ready.handles

pub make_running-requires-clause-wiring : goal.make_running-requires-clause-wiring
make_running-requires-clause-wiring c = c.requires.ready.wiring

pub make_running-requires-clause-bounds : goal.make_running-requires-clause-bounds
make_running-requires-clause-bounds c = c.requires.ready.bounds

pub returns-clause-open : goal.returns-clause-open
returns-clause-open c = is_open _ _ _ _ _ c.requires.ready.runnable c.requires.ready.bounds c.in_ok-running.ensures
    c.in_ok-output.ensures.chunk c.deref.ensures.value c.in_ok-output.ensures.finishes
