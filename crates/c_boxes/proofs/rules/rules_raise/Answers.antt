use Rattle.std.proofs.Common.{◌∙◌}
use Rattle.c_boxes.specs.Rules.{rule_raises}
use Rattle.c_boxes.proofs.CaseSteps.{mapped_next}
use Rattle.c_boxes.proofs.rules.rules_raise.Goals as goal

pub loop-rule-preserved : goal.loop-rule-preserved
loop-rule-preserved c =
    mapped_next (rule_raises c.args.core.now) c.as_slice-rule-items.result.now c.loop-rule.rule-index c.rule-item.result c.loop-rule.all c.push.new.self c.rule_raises.result
    c.loop-rule-test.true c.rule-item.is c.rule_raises.ensures c.in_ok-push.ensures.ok
    ∙ c.loop-rule.invariant
