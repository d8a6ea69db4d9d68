use Rattle.hume_calls.proofs.run.opening.make_running.Goals as goal

pub compile-requires : goal.compile-requires
compile-requires c = c.requires.bounds.are

pub make-requires-clause-within : goal.make-requires-clause-within
make-requires-clause-within c = c.requires.bounds.within
