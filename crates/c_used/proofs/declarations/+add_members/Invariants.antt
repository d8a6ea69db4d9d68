use Rattle.std.proofs.Common.{◌≡◌, drop}
use Rattle.c_used.specs.Uses.{members_use}
use Rattle.c_used.specs.inner.Names.{with_names}
use Rattle.c_used.proofs.declarations.+add_members.Given as goal

abbrev pub invariant-add_members-loop-member : goal.invariant-add_members-loop-member
invariant-add_members-loop-member l = with_names l.names (members_use (drop l.member-index l.members)) ≡ with_names l.initial.names (members_use l.members)
