use Rattle.std.proofs.Common.{◌≡◌, ◌++◌, drop}
use Rattle.std.specs.List.{flat_map}
use Rattle.c_sizes.specs.Memory.{member_row}
use Rattle.c_sizes.proofs.memory.put_members.Given as goal

abbrev pub invariant-loop-member : goal.invariant-loop-member
invariant-loop-member l =
    l.rows ++ flat_map (member_row l.types) (drop l.member-index l.members) ≡ l.initial.rows ++ flat_map (member_row l.types) l.members
