use Rattle.std.proofs.Common.{◌≡◌, ◌++◌, drop}
use Rattle.c_types.specs.Shapes.{seen}
use Rattle.c_main.specs.Texts.{each_from}
use Rattle.c_main.specs.Show.{constructor}
use Rattle.c_main.proofs.show.constructors.Given as goal

abbrev pub invariant-loop-place : goal.invariant-loop-place
invariant-loop-place l =
    l.text.items ++ each_from (constructor l.found (seen l.shape)) l.place (drop l.place l.cons) ≡ each_from (constructor l.found (seen l.shape)) 0 l.cons
