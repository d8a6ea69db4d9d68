use Rattle.std.proofs.Common.{◌≡◌, drop}
use Rattle.std.specs.List.{list_any, flat_map}
use Rattle.check_rules.specs.SizeRules.{written_in}
use Rattle.check_typing.specs.Declarations.{WrittenRule}
use Rattle.check_sizes.specs.inner.Large.{is_large}
use Rattle.check_sizes.proofs.declarations.a_rule_has.Given as goal

abbrev pub invariant-loop-rule : goal.invariant-loop-rule
invariant-loop-rule l =
    let some = list_any (is_large l.table.types l.sizes) in
    some (flat_map (λ (rule : WrittenRule). written_in rule.1) (drop l.rule-index l.rules)) ≡ some (flat_map (λ (rule : WrittenRule). written_in rule.1) l.rules)
