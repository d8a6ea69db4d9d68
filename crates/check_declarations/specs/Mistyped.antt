-- When a declaration breaks the rule on types, or that on ranges of literals.
use Rattle.hume_base.specs.declared.finding.Finding.{Finding}
use Rattle.hume_base.specs.declared.rule.Rule.TheVariants.{C40, C41}
use Rattle.hume_base.specs.Least.{OfRule}
use Rattle.check_rules.specs.Declared.{Decls}
use Rattle.check_rules.specs.TypeRules.{IsUntyped, HasLiteralOutOfRange}

-- something in a declaration has no type, or a literal in it is out of the range of its type
pub data IsMistyped (decls : Decls) (f : Finding) : Type 0 where
  untyped : OfRule C40 (IsUntyped decls) f → IsMistyped decls f
  out_of_range : OfRule C41 (HasLiteralOutOfRange decls) f → IsMistyped decls f
