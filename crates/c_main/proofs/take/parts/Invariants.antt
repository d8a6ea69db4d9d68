use Rattle.std.proofs.Common.{◌≡◌, ◌++◌, drop}
use Rattle.c_main.specs.Texts.{each_from}
use Rattle.c_main.specs.Take.{part}
use Rattle.c_main.proofs.take.parts.Given as goal

abbrev pub invariant-loop-place : goal.invariant-loop-place
invariant-loop-place l =
    l.text.items ++ each_from (part l.found) l.place (drop l.place l.tys) ≡ each_from (part l.found) 0 l.tys
