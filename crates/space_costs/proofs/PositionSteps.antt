-- Positions of a rule, one by one.
use Rattle.std.proofs.Common.{◌≡◌, ℕ, ◌+◌, min, List, [], ◌∷◌, length, drop, refl, ap, ◌∙◌, arith, inl, inr, ◌⊎◌}
use Rattle.std.proofs.Math.Seq.{drop-length}
use Rattle.std.proofs.lemmas.Bool.{cases_lt}
use Rattle.hume_base.specs.declared.types.Ty.{Ty}
use Rattle.hume_base.specs.declared.types.Types.{Types}
use Rattle.hume_model.specs.declared.core_tree.InPat.{InPat}
use Rattle.hume_model.specs.declared.core_tree.InPat.TheVariants.{Star, AnyStar, Any, Built}
use Rattle.hume_model.specs.declared.core_tree.PortC.{PortC}
use Rattle.hume_model.specs.BoxTyping.{port_types}
use Rattle.box_costs.specs.Bounds.{built_patterns, inputs_build}
use Rattle.space_costs.specs.inner.Positions.{count_at}

pub more_count : (pat : InPat) (pats : List InPat) → length (built_patterns (pat ∷ pats)) ≡ count_at pat + length (built_patterns pats)
more_count Star pats = omega arith
more_count AnyStar pats = omega arith
more_count Any pats = omega arith
more_count (Built p) pats = omega arith

past : {X : Type 0} (xs : List X) (n : ℕ) → n ≡ length xs → drop n xs ≡ []
past xs n same = ap (λ k. drop k xs) same ∙ drop-length xs

no_pats : (types : Types) (tys : List Ty) → inputs_build types tys [] ≡ 0
no_pats types [] = refl
no_pats types (ty ∷ tys) = refl

shorter : (a b : ℕ) → (min a b ≡ a) ⊎ (min a b ≡ b)
shorter a b = elim (cases_lt a b) [ inl p ↦ inl (omega arith) | inr p ↦ inr (omega arith) ]

-- past the shorter list nothing is built
pub none_built : (types : Types) (ins : List PortC) (pats : List InPat) (n : ℕ) → n ≡ min (length ins) (length pats)
    → inputs_build types (port_types (drop n ins)) (drop n pats) ≡ 0
none_built types ins pats n is = elim (shorter (length ins) (length pats)) [
  | inl short ↦ ap (λ (l : List PortC). inputs_build types (port_types l) (drop n pats)) (past ins n (is ∙ short))
  | inr short ↦ ap (λ (l : List InPat). inputs_build types (port_types (drop n ins)) l) (past pats n (is ∙ short)) ∙ no_pats types (port_types (drop n ins))
]
