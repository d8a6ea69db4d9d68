use Rattle.std.proofs.Common.{refl}
use Rattle.hume_console.proofs.OldPorts.{nothing_finished, one_finished}
use Rattle.hume_console.proofs.exchanging.finish_old.Goals as goal

pub returns-then-not-is_output-clause-ends : goal.returns-then-not-is_output-clause-ends
returns-then-not-is_output-clause-ends g c = λ name place. nothing_finished c.args.core.now c.args.node name _ (c.if-not-is_output.ensures.no refl)

pub returns-clause-ends : goal.returns-clause-ends
returns-clause-ends g c = one_finished c.args.core.now c.args.node c.args.at _ _ _ (c.if-not-is_output.ensures.yes refl) c.finish_act.ensures.ends
