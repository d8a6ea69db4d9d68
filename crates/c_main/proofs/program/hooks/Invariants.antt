use Rattle.std.proofs.Common.{◌≡◌, ◌++◌, drop}
use Rattle.c_types.specs.Gathered.{gathered}
use Rattle.c_main.specs.Texts.{each_from}
use Rattle.c_main.specs.Main.{hook_of}
use Rattle.c_main.proofs.program.hooks.Given as goal

abbrev pub invariant-loop-number : goal.invariant-loop-number
invariant-loop-number l =
    l.text.items ++ each_from (hook_of (gathered l.types) l.core l.taken l.shown) l.number (drop l.number l.nodes) ≡ each_from (hook_of (gathered l.types) l.core l.taken l.shown) 0 l.nodes
