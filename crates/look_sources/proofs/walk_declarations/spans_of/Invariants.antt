use Rattle.std.proofs.Common.{◌≤◌}
use Rattle.look_sources.specs.inner.Walks.{noted}
use Rattle.look_sources.proofs.walk_declarations.spans_of.Given as goal

abbrev pub invariant-loop-decl : goal.invariant-loop-decl
invariant-loop-decl l = l.decl-index ≤ noted l.walk
