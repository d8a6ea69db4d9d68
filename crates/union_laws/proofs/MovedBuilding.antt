-- A value of a moved type takes as many words to build as one of the type.
use Rattle.std.proofs.Common.{◌≡◌, ℕ, zero, suc, ◌+◌, ◌<◌, nat_lt, true, List, [], ◌∷◌, length, map, sum, slice_get, refl, ap, sym, ◌∙◌, arith, inl, inr}
use Rattle.std.specs.List.{list_all}
use Rattle.std.proofs.lemmas.Bool.{and_parts, cases_eq, eq-eqb, ltb-true, ne_eqb}
use Rattle.std.proofs.lemmas.List.{length-map}
use Rattle.hume_base.specs.declared.types.Ty.{Ty}
use Rattle.hume_base.specs.declared.types.Ty.TheOpen.{Ty-F}
use Rattle.hume_base.specs.declared.types.ConDef.{ConDef}
use Rattle.hume_base.specs.declared.types.Types.{Types}
use Rattle.hume_base.specs.Holding.{HoldSmaller, con_holds, holds_below}
use Rattle.hume_base.specs.Sizes.{greatest}
use Rattle.box_costs.specs.Building.{build_of, build_of_con, build_of_sum, build_step, build_with, named_build}
use Rattle.union_laws.specs.declared.moves.Moves.{Moves}
use Rattle.union_laws.specs.Moving.{moved_con, moved_type, moved_type_layer}
use Rattle.union_laws.proofs.MovedCalls.{there_is}
use Rattle.union_laws.proofs.MovedValues.{TypesStandIn, name_within}
use Rattle.union_laws.proofs.TypeFolds.{IsKnownName, type_folds}

build-at : (types : Types) (bound number : ℕ) → number < bound → named_build types bound number ≡ build_of_sum (build_with (named_build types number)) (slice_get types.sums number)
unfolding named_build
build-at types zero number below = absurd (omega arith)
build-at types (suc bound) number below = elim (cases_eq number bound) [
  | inl same ↦ rw (eq-eqb number bound same) (ap (λ k. build_of_sum (build_with (named_build types k)) (slice_get types.sums k)) (sym same))
  | inr other ↦ rw (ne_eqb number bound other) (build-at types bound number (omega arith))
]

module _ (moves : Moves) (bound : ℕ) (build other : Ty → ℕ) (same : (ty : Ty) → holds_below bound ty ≡ true → other (moved_type moves ty) ≡ build ty) where
  fields_same : (tys : List Ty) → list_all (holds_below bound) tys ≡ true → map other (map (moved_type moves) tys) ≡ map build tys
  fields_same [] all = refl
  fields_same (ty ∷ tys) all =
      let parts = and_parts (holds_below bound ty) (list_all (holds_below bound) tys) all in
      λ i. same ty parts.0 i ∷ fields_same tys parts.1 i

  cons_same : (cons : List ConDef) → list_all (con_holds bound) cons ≡ true → map (build_of_con other) (map (moved_con moves) cons) ≡ map (build_of_con build) cons
  cons_same [] all = refl
  cons_same (con ∷ cons) all =
      let parts = and_parts (con_holds bound con) (list_all (con_holds bound) cons) all in
      λ i. ((1 + length-map con.fields (moved_type moves) i) + sum (fields_same con.fields parts.0 i)) ∷ cons_same cons parts.1 i

module _ (moves : Moves) (small large : Types) (stands : TypesStandIn moves small large) (holds : HoldSmaller small) where
  level : (bound : ℕ) (named other : ℕ → ℕ) → ((number : ℕ) → nat_lt number bound ≡ true → other (moves.types + number) ≡ named number)
      → (y : Ty-F ℕ) → IsKnownName bound y → build_step other (moved_type_layer moves y) ≡ build_step named y
  level bound named other same Ty-F.Bool known = refl
  level bound named other same Ty-F.Char known = refl
  level bound named other same (Ty-F.Int bits) known = refl
  level bound named other same (Ty-F.Nat bits) known = refl
  level bound named other same (Ty-F.Tuple parts) known = refl
  level bound named other same (Ty-F.Vector count item) known = refl
  level bound named other same (Ty-F.Named number) known = same number known

  with_same : (bound : ℕ) (named other : ℕ → ℕ) → ((number : ℕ) → nat_lt number bound ≡ true → other (moves.types + number) ≡ named number)
      → (ty : Ty) → holds_below bound ty ≡ true → build_with other (moved_type moves ty) ≡ build_with named ty
  with_same bound named other same = type_folds ℕ (build_step named) (build_step other) moves bound (level bound named other same)

  named_same : (n k m number : ℕ) → number < n → number < length small.sums → number < k → moves.types + number < m
      → named_build large m (moves.types + number) ≡ named_build small k number
  named_same zero k m number less within below above = absurd (omega arith)
  named_same (suc n) k m number less within below above =
      let at = there_is small.sums number within in
      build-at large m (moves.types + number) above
      ∙ ap (build_of_sum (build_with (named_build large (moves.types + number)))) (stands number at.0 at.1)
      ∙ ap greatest (cons_same moves number (build_with (named_build small number)) (build_with (named_build large (moves.types + number)))
      (with_same number (named_build small number) (named_build large (moves.types + number))
      (λ lower known. let down : lower < number = ltb-true lower number known in
      named_same n number (moves.types + number) lower (omega (arith, down, less)) (omega (arith, down, within)) down (omega (arith, down))))
      at.0.cons (holds number at.0 at.1))
      ∙ sym (build-at small k number below ∙ ap (build_of_sum (build_with (named_build small number))) at.1)

  pub build_same : (ty : Ty) → holds_below (length small.sums) ty ≡ true → build_of large (moved_type moves ty) ≡ build_of small ty
  build_same =
      with_same (length small.sums) (named_build small (length small.sums)) (named_build large (length large.sums))
      (λ number known. let within : number < length small.sums = ltb-true number (length small.sums) known in
      named_same (suc number) (length small.sums) (length large.sums) number (omega arith) within within
      (ltb-true (moves.types + number) (length large.sums) (name_within moves small large stands number known)))
