use Rattle.hume_run.proofs.Runnable.{runnable, bounded, handles}
use Rattle.trials.proofs.held_round.new_engine.Goals as goal

pub compile-requires : goal.compile-requires
compile-requires c = c.requires.is.costs

pub make-requires-clause-runnable : goal.make-requires-clause-runnable
make-requires-clause-runnable c = runnable c.requires.text _ c.requires.is

pub make-requires-clause-handles : goal.make-requires-clause-handles
make-requires-clause-handles c = handles c.requires.text _ c.requires.is

pub make-requires-clause-wiring : goal.make-requires-clause-wiring
make-requires-clause-wiring c = c.requires.is.wiring

pub make-requires-clause-within : goal.make-requires-clause-within
make-requires-clause-within c = (bounded c.requires.text _ c.requires.is).within
