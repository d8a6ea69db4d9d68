use Rattle.std.proofs.Common.{refl}
use Rattle.hume_console.proofs.Finishing.{finished, finished_none, finished_out, within_ports}
use Rattle.hume_console.proofs.closing.close_node.Goals as goal

pub returns-then-at-out-clause-ends : goal.returns-then-at-out-clause-ends
returns-then-at-out-clause-ends g c session is = finished_out c.args.core.now session c.args.node c.args.at c.args.out _ is c.if-at-out.true

pub returns-then-not-is_output-clause-ends : goal.returns-then-not-is_output-clause-ends
returns-then-not-is_output-clause-ends g c session is =
    finished_none c.args.core.now session c.args.node c.args.at c.args.out _ is (c.if-not-is_output.ensures.no refl)

pub finish_act-requires : goal.finish_act-requires
finish_act-requires g c =
    within_ports _ c.args.ports.now c.args.core.now c.requires.closable.0 c.args.node c.args.at c.args.out c.requires.closable.1 (c.if-not-is_output.ensures.yes refl)

pub returns-clause-ends : goal.returns-clause-ends
returns-clause-ends g c session is =
    finished c.args.core.now session c.args.node c.args.at c.args.out _ _ _ is c.if-at-out.false (c.if-not-is_output.ensures.yes refl) c.finish_act.ensures.ends
