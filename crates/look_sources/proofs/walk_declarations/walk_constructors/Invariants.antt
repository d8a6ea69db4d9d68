use Rattle.std.proofs.Common.{◌≤◌}
use Rattle.look_sources.specs.inner.Walks.{noted}
use Rattle.look_sources.proofs.walk_declarations.walk_constructors.Given as goal

abbrev pub invariant-loop-i : goal.invariant-loop-i
invariant-loop-i l = noted l.fn.walk ≤ noted l.walk
