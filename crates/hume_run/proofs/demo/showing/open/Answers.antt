use Rattle.hume_calls.proofs.Runnable.{runnable, bounded, handles}
use Rattle.hume_run.proofs.DemoShown.{shown_open}
use Rattle.hume_run.proofs.demo.showing.open.Goals as goal

pub compile-requires : goal.compile-requires
compile-requires c = c.requires.1.costs

pub make-requires-2-clause-runnable : goal.make-requires-2-clause-runnable
make-requires-2-clause-runnable c = runnable _ _ c.requires.1

pub make-requires-2-clause-handles : goal.make-requires-2-clause-handles
make-requires-2-clause-handles c = handles _ _ c.requires.1

pub make-requires-2-clause-wiring : goal.make-requires-2-clause-wiring
make-requires-2-clause-wiring c = c.requires.1.wiring

pub make-requires-2-clause-within : goal.make-requires-2-clause-within
make-requires-2-clause-within c = (bounded _ _ c.requires.1).within

pub returns-clause-open : goal.returns-clause-open
returns-clause-open c =
    shown_open _ _ (runnable _ _ c.requires.1) (bounded _ _ c.requires.1) c.in_ok-demo.ensures c.in_ok-chunk.ensures.1
