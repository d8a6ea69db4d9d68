use Rattle.std.proofs.Common.{◌≡◌, IfOk, subst, ◌∙◌}
use Rattle.hume_net.proofs.SeenEnds.{asserts_seen}
use Rattle.hume_net.proofs.phases.asserted_node.Goals as goal

pub returns-in_ok-part-in-Some : goal.returns-in_ok-part-in-Some
returns-in_ok-part-in-Some c =
    let same =
    asserts_seen c.args.core.now c.args.ends.now c.requires c.args.state.now c.args.number c.in-Some.node.now c.in-Some.ensures
    c.in_ok-part-in-Some.part c.as_slice.result.now c.in_ok-wires-in-Some.wires c.in_ok-part-in-Some.ensures (c.as_slice.ensures ∙ c.in_ok-rooms-in-Some.ensures) c.in_ok-wires-in-Some.ensures in
    subst (λ x. IfOk c.assert_step.result (λ half. half ≡ x)) same c.assert_step.ensures
