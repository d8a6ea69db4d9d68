use Rattle.std.proofs.Common.{◌≡◌, ◌++◌, drop}
use Rattle.c_main.specs.Texts.{each_from}
use Rattle.c_main.specs.Main.{filling_of}
use Rattle.c_main.proofs.program.fillings.Given as goal

abbrev pub invariant-loop-number : goal.invariant-loop-number
invariant-loop-number l =
    l.text.items ++ each_from filling_of l.number (drop l.number l.nodes) ≡ each_from filling_of 0 l.nodes
