use Rattle.std.proofs.Common.{◌≡◌, drop}
use Rattle.std.specs.List.{list_any}
use Rattle.check_counts.specs.CountRules.{rule_miscounts}
use Rattle.check_counts.proofs.declarations.rules_miscount.Given as goal

abbrev pub invariant-loop-rule : goal.invariant-loop-rule
invariant-loop-rule l = list_any (rule_miscounts l.counts l.sides.0 l.sides.1) (drop l.rule-index l.rules) ≡ list_any (rule_miscounts l.counts l.sides.0 l.sides.1) l.rules
