use Rattle.std.proofs.Common.{◌≡◌, ◌++◌, drop}
use Rattle.c_types.specs.Gathered.{gathered}
use Rattle.c_main.specs.Texts.{each_from}
use Rattle.c_main.specs.Take.{take_function}
use Rattle.c_main.proofs.program.takes.Given as goal

abbrev pub invariant-loop-number : goal.invariant-loop-number
invariant-loop-number l =
    l.text.items ++ each_from (take_function (gathered l.types) l.found) l.number (drop l.number l.found) ≡ each_from (take_function (gathered l.types) l.found) 0 l.found
