use Rattle.std.proofs.Common.{◌≡◌, ◌++◌, drop}
use Rattle.c_main.specs.Texts.{each_from}
use Rattle.c_main.specs.Main.{opening_of}
use Rattle.c_main.proofs.program.openings.Given as goal

abbrev pub invariant-loop-number : goal.invariant-loop-number
invariant-loop-number l =
    l.text.items ++ each_from opening_of l.number (drop l.number l.nodes) ≡ each_from opening_of 0 l.nodes
