-- The rules on names.
use Rattle.std.specs.Prelude.{ℕ, List}
use Rattle.hume_base.specs.declared.finding.Finding.{Finding}
use Rattle.hume_base.specs.declared.rule.Rule.TheVariants.{C30, C31, C32, C33}
use Rattle.hume_base.specs.Least.{OfRule}
use Rattle.hume_ast.specs.declared.tree.Decl.{Decl}
use Rattle.check_names.specs.Repeated.{RepeatsName}
use Rattle.check_names.specs.Unknown.{HasUnknownName}
use Rattle.check_names.specs.Leading.{CallsItself, HoldsItself}

-- one of the rules on names is broken by one of the declarations
pub data BreaksNames (decls : List (ℕ × Decl)) : Finding → Type 0 where
  repeats : (f : Finding) → OfRule C30 (RepeatsName decls) f → BreaksNames decls f
  unknown : (f : Finding) → OfRule C31 (HasUnknownName decls) f → BreaksNames decls f
  calls_itself : (f : Finding) → OfRule C32 (CallsItself decls) f → BreaksNames decls f
  holds_itself : (f : Finding) → OfRule C33 (HoldsItself decls) f → BreaksNames decls f
