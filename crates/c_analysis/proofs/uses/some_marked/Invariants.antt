use Rattle.std.proofs.Common.{◌≡◌, ◌-◌, drop}
use Rattle.c_analysis.specs.inner.Marks.{some_set}
use Rattle.c_analysis.proofs.uses.some_marked.Given as goal

abbrev pub invariant-loop-place : goal.invariant-loop-place
invariant-loop-place l = some_set (l.count - l.place) (drop l.place l.used) ≡ some_set l.count l.used
