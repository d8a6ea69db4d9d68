-- The least broken rule on names is the earliest of the first ones of the four rules.
use Rattle.std.proofs.Common.{ℕ, ◌⊎◌, inl, inr, List, Option}
use Rattle.hume_base.specs.declared.finding.Finding.{Finding}
use Rattle.hume_base.specs.declared.rule.Rule.TheVariants.{C30, C31, C32, C33}
use Rattle.hume_base.specs.Least.{IsLeast, IsFirst, OfRule, finding_of, earlier_of}
use Rattle.hume_base.proofs.Least.{IsLeast-rule, IsLeast-either, IsLeast-same}
use Rattle.hume_ast.specs.declared.tree.Decl.{Decl}
use Rattle.check_names.specs.Repeated.{RepeatsName}
use Rattle.check_names.specs.Unknown.{HasUnknownName}
use Rattle.check_names.specs.Leading.{CallsItself, HoldsItself}
use Rattle.check_names.specs.Misnamed.{BreaksNames, repeats, unknown, calls_itself, holds_itself}

module _ (decls : List (ℕ × Decl)) where
  abbrev Early : Finding → Type 0
  Early f = OfRule C30 (RepeatsName decls) f ⊎ OfRule C31 (HasUnknownName decls) f

  abbrev Late : Finding → Type 0
  Late f = OfRule C32 (CallsItself decls) f ⊎ OfRule C33 (HoldsItself decls) f

  to_rules : (f : Finding) → Early f ⊎ Late f → BreaksNames decls f
  to_rules f p = elim p [
    | inl e ↦ elim e [ inl x ↦ repeats f x | inr x ↦ unknown f x ]
    | inr l ↦ elim l [ inl x ↦ calls_itself f x | inr x ↦ holds_itself f x ]
  ]

  from_rules : (f : Finding) → BreaksNames decls f → Early f ⊎ Late f
  from_rules _ (repeats f x) = inl (inl x)
  from_rules _ (unknown f x) = inl (inr x)
  from_rules _ (calls_itself f x) = inr (inl x)
  from_rules _ (holds_itself f x) = inr (inr x)

  pub least_misnamed : (a b c d : Option ℕ) → IsFirst (RepeatsName decls) a → IsFirst (HasUnknownName decls) b → IsFirst (CallsItself decls) c → IsFirst (HoldsItself decls) d
      → IsLeast (BreaksNames decls) (earlier_of (earlier_of (finding_of C30 a) (finding_of C31 b)) (earlier_of (finding_of C32 c) (finding_of C33 d)))
  least_misnamed a b c d p q r s =
      IsLeast-same (λ f. Early f ⊎ Late f) (BreaksNames decls) _ (λ f. (to_rules f, from_rules f))
      (IsLeast-either Early Late _ _
      (IsLeast-either (OfRule C30 (RepeatsName decls)) (OfRule C31 (HasUnknownName decls)) _ _ (IsLeast-rule C30 (RepeatsName decls) a p) (IsLeast-rule C31 (HasUnknownName decls) b q))
      (IsLeast-either (OfRule C32 (CallsItself decls)) (OfRule C33 (HoldsItself decls)) _ _ (IsLeast-rule C32 (CallsItself decls) c r) (IsLeast-rule C33 (HoldsItself decls) d s)))
