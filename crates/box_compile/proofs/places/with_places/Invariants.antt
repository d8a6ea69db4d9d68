use Rattle.std.proofs.Common.{◌≡◌, ◌++◌}
use Rattle.box_code.specs.Represents.{counted}
use Rattle.box_compile.proofs.places.with_places.Given as goal

abbrev pub invariant-loop-i : goal.invariant-loop-i
invariant-loop-i l = l.inner ≡ l.places ++ counted l.start l.i
