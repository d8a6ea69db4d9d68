use Rattle.std.proofs.Common.{◌≡◌, ◌++◌, drop}
use Rattle.c_main.specs.Texts.{each_from}
use Rattle.c_main.specs.Main.{stream_type}
use Rattle.c_main.proofs.program.stream_types.Given as goal

abbrev pub invariant-loop-number : goal.invariant-loop-number
invariant-loop-number l =
    l.tys ++ each_from (stream_type l.core l.comes_in) l.number (drop l.number l.nodes) ≡ each_from (stream_type l.core l.comes_in) 0 l.nodes
