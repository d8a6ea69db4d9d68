use Rattle.std.proofs.Common.{◌≡◌, IfOk, subst}
use Rattle.hume_net.proofs.SeenEnds.{executes_seen}
use Rattle.hume_net.proofs.phases.executed_node.Goals as goal

pub returns-in_ok-part-in-Some : goal.returns-in_ok-part-in-Some
returns-in_ok-part-in-Some c =
    let same =
    executes_seen c.args.core.now c.args.ends.now c.requires c.args.state.now c.args.number c.in-Some.node.now c.in-Some.ensures
    c.in_ok-part-in-Some.part c.in_ok-wires-in-Some.wires c.in_ok-part-in-Some.ensures c.in_ok-wires-in-Some.ensures in
    subst (λ x. IfOk c.execute_step.result (λ half. half ≡ x)) same c.execute_step.ensures
