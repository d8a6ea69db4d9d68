use Rattle.std.proofs.Common.{◌≡◌, ◌++◌, ◌+◌, ◌*◌, drop, map}
use denote.Param.Weighed.{most}
use Rattle.c_tree.specs.declared.tree.CMember.{size-CMember}
use Rattle.c_tree.specs.Statements.{each_behind}
use Rattle.c_tree.specs.Program.{member_line}
use Rattle.c_tree.proofs.put_members.+put_members.Given as goal

abbrev pub decreases-put_member : goal.decreases-put_member
decreases-put_member l = 4 * size-CMember l.member.now

abbrev pub decreases-put_members : goal.decreases-put_members
decreases-put_members l = 4 * most size-CMember l.members.now + 1

abbrev pub decreases-put_member_block : goal.decreases-put_member_block
decreases-put_member_block l = 4 * most size-CMember l.members.now + 2

abbrev pub decreases-put_aggregate : goal.decreases-put_aggregate
decreases-put_aggregate l = 4 * most size-CMember l.members.now + 3

abbrev pub invariant-put_members-loop-member : goal.invariant-put_members-loop-member
invariant-put_members-loop-member l =
    l.text.items ++ each_behind l.margin (map member_line (drop l.member-index l.members))
    ≡ l.initial.text.items ++ each_behind l.margin (map member_line l.members)
