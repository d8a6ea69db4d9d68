use Rattle.std.proofs.Common.{◌≡◌, ◌++◌, map, drop}
use Rattle.check_names.specs.Names.{joined}
use Rattle.check_names.specs.Mentions.{clause_mentions}
use Rattle.check_names.proofs.mention_decls.mention_rules.Given as goal

abbrev pub invariant-loop-rule : goal.invariant-loop-rule
invariant-loop-rule l = l.out ++ joined (map (λ rule. clause_mentions rule.0 rule.1) (drop l.rule-index l.rules)) ≡ l.fn.out ++ joined (map (λ rule. clause_mentions rule.0 rule.1) l.rules)
