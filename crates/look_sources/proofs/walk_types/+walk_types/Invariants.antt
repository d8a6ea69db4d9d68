use Rattle.std.proofs.Common.{◌≤◌}
use Rattle.look_sources.specs.inner.Walks.{noted}
use Rattle.look_sources.proofs.walk_types.+walk_types.Given as goal

abbrev pub invariant-walk_types-loop-i : goal.invariant-walk_types-loop-i
invariant-walk_types-loop-i l = noted l.fn.walk ≤ noted l.walk
