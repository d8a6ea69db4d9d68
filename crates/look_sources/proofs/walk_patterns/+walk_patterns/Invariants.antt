use Rattle.std.proofs.Common.{◌≤◌}
use Rattle.look_sources.specs.inner.Walks.{noted}
use Rattle.look_sources.proofs.walk_patterns.+walk_patterns.Given as goal

abbrev pub invariant-walk_patterns-loop-i : goal.invariant-walk_patterns-loop-i
invariant-walk_patterns-loop-i l = noted l.fn.walk ≤ noted l.walk
