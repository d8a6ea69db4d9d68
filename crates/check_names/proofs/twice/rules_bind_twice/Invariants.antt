use Rattle.std.proofs.Common.{◌≡◌, drop}
use Rattle.std.specs.List.{list_any}
use Rattle.check_names.specs.Twice.{clause_binds_twice}
use Rattle.check_names.proofs.twice.rules_bind_twice.Given as goal

abbrev pub invariant-loop-rule : goal.invariant-loop-rule
invariant-loop-rule l = list_any (λ rule. clause_binds_twice rule.0 rule.1) (drop l.rule-index l.rules) ≡ list_any (λ rule. clause_binds_twice rule.0 rule.1) l.rules
