use Rattle.std.proofs.Common.{List, take, sym, subst}
use Rattle.hume_model.specs.declared.core_tree.RuleC.{RuleC}
use Rattle.box_compile.specs.inner.Boxes.{RulesFound}
use Rattle.box_compile.specs.inner.Emitted.{Emitted}
use Rattle.box_compile.specs.inner.Entries.{entry_in}
use Rattle.box_compile.proofs.Taken.{taken_more, taken_all}
use Rattle.box_compile.proofs.BoxCode.{rules_more}
use Rattle.box_compile.proofs.boxes.emit_rules.Goals as goal

pub loop-rule-preserved : goal.loop-rule-preserved
loop-rule-preserved c =
    let rules : List RuleC = c.args.rules.now in
    subst (λ (l : List RuleC). Emitted c.args.writer.now c.emit_rule.new.writer (λ code from to. RulesFound code
    (entry_in c.args.entries.now) c.push.new.self l))
    (sym (taken_more rules c.loop-rule.rule-index c.rule-item.result c.loop-rule-test.true c.rule-item.is))
    (rules_more c.loop-rule.places c.push.new.self c.in_ok-emit_rule.field-0 (take c.loop-rule.rule-index rules) c.rule-item.result c.in_ok-push.ensures.ok
    c.loop-rule.invariant c.in_ok-emit_rule.ensures)

pub returns : goal.returns
returns c =
    let rules : List RuleC = c.args.rules.now in
    subst (λ (l : List RuleC). Emitted c.args.writer.now c.loop-rule.writer (λ code from to. RulesFound code
    (entry_in c.args.entries.now) c.loop-rule.places l))
    (taken_all rules c.loop-rule.rule-index c.loop-rule-test.false) c.loop-rule.invariant
