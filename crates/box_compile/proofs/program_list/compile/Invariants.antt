use Rattle.std.proofs.Common.{◌≡◌, length, take}
use Rattle.std.specs.List.{filter_map}
use Rattle.box_compile.specs.Programs.{AreProgramsFor, box_in}
use Rattle.box_compile.proofs.program_list.compile.Given as goal

abbrev pub invariant-loop-i : goal.invariant-loop-i
invariant-loop-i l = record {
  count : l.count ≡ length l.core.nodes;
  programs : AreProgramsFor l.core (filter_map box_in (take l.i l.core.nodes)) l.programs;
}
