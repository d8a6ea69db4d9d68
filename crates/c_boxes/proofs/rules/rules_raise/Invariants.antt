use Rattle.std.proofs.Common.{◌≡◌, ◌++◌, drop, map}
use Rattle.c_boxes.specs.Rules.{rule_raises}
use Rattle.c_boxes.proofs.rules.rules_raise.Given as goal

abbrev pub invariant-loop-rule : goal.invariant-loop-rule
invariant-loop-rule l = l.all ++ map (rule_raises l.core) (drop l.rule-index l.rule-items) ≡ map (rule_raises l.core) l.b.rules
