use Rattle.std.proofs.Common.{◌≡◌, ◌+◌, ◌*◌, drop, map}
use Rattle.std.specs.Prelude.{fold}
use denote.Param.Weighed.{most}
use Rattle.c_tree.specs.declared.tree.CMember.{size-CMember}
use Rattle.c_sizes.specs.Layout.{behind, beside, empty, member_layout}
use Rattle.c_sizes.proofs.layout.+member_layout.Given as goal

abbrev pub decreases-member_layout : goal.decreases-member_layout
decreases-member_layout l = 2 * size-CMember l.member.now

abbrev pub decreases-struct_layout : goal.decreases-struct_layout
decreases-struct_layout l = 2 * most size-CMember l.members.now + 1

abbrev pub decreases-union_layout : goal.decreases-union_layout
decreases-union_layout l = 2 * most size-CMember l.members.now + 1

abbrev pub invariant-struct_layout-loop-member : goal.invariant-struct_layout-loop-member
invariant-struct_layout-loop-member l =
    fold behind l.others (map (member_layout l.types) (drop l.member-index l.members))
    ≡ fold behind empty (map (member_layout l.types) l.members)

abbrev pub invariant-union_layout-loop-member : goal.invariant-union_layout-loop-member
invariant-union_layout-loop-member l =
    fold beside l.others (map (member_layout l.types) (drop l.member-index l.members))
    ≡ fold beside empty (map (member_layout l.types) l.members)
