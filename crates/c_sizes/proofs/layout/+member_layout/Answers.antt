use Rattle.std.proofs.Common.{refl, ap, map, ◌∙◌}
use Rattle.c_sizes.specs.Layout.{behind, member_layout}
use Rattle.c_sizes.proofs.Turns.{next_turn}
use Rattle.c_sizes.proofs.layout.+member_layout.Goals as goal

pub struct_layout-loop-member-preserved : goal.struct_layout-loop-member-preserved
struct_layout-loop-member-preserved t c =
    next_turn behind (map (member_layout c.args.types.now)) (member_layout c.args.types.now) (λ y ys. refl)
    c.args.members.now c.loop-member.member-index c.member-item.result _ _ _
    c.loop-member-test.true c.member-item.is (c.behind-others.ensures ∙ ap (behind c.loop-member.others) c.member_layout.ensures) c.loop-member.invariant
