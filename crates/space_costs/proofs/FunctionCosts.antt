-- The costs of functions, one after another.
use Rattle.std.proofs.Common.{◌≡◌, ◌≢◌, ℕ, zero, suc, ◌+◌, List, [], ◌∷◌, ◌++◌, length, Some, slice_get, refl, ap, sym, ◌∙◌, subst, inl, inr, add-one}
use Rattle.std.proofs.lemmas.Bool.{cases_eq, eq-eqb, ne_eqb}
use Rattle.hume_model.specs.declared.core_tree.FunC.{FunC}
use Rattle.hume_model.specs.declared.core_tree.Core.{Core}
use Rattle.box_costs.specs.declared.cost.Cost.{Cost}
use Rattle.box_costs.specs.Bounds.{bound_with, function_bound, bound_below}
use Rattle.space_costs.specs.inner.Standing.{IsCostOf, AreCostsOf, or_absent}

pub last_item : {X : Type 0} (xs : List X) (x : X) → slice_get (xs ++ x ∷ []) (length xs) ≡ Some x
last_item [] x = refl
last_item (y ∷ xs) x = last_item xs x

pub other_item : {X : Type 0} (xs : List X) (x : X) (i : ℕ) → i ≢ length xs → slice_get (xs ++ x ∷ []) i ≡ slice_get xs i
other_item [] x zero other = absurd (other refl)
other_item [] x (suc i) other = refl
other_item (y ∷ xs) x zero other = refl
other_item (y ∷ xs) x (suc i) other = other_item xs x i (λ e. other (ap suc e))

pub long_one : {X : Type 0} (xs : List X) (x : X) → length (xs ++ x ∷ []) ≡ suc (length xs)
long_one [] x = refl
long_one (y ∷ xs) x = ap suc (long_one xs x)

-- the costs of the first so many functions
pub record AreCostsBelow (core : Core) (count : ℕ) (costs : List Cost) : Type 0 where
  pub long : length costs ≡ count
  pub each : AreCostsOf costs (bound_below core count)

module _ (core : Core) where
  pub no_costs : AreCostsBelow core 0 []
  unfolding bound_below
  no_costs = record { long = refl; each = record { each = λ f. record { heap = refl; stack = refl; work = refl } } }

  module _ (count : ℕ) (costs : List Cost) (function : FunC) (x : Cost) (below : AreCostsBelow core count costs) (found : slice_get core.funs count ≡ Some function)
      (is : IsCostOf x (function_bound (bound_with (bound_below core count)) (Some function))) where
    one_more : (f : ℕ) → IsCostOf (or_absent (slice_get (costs ++ x ∷ []) f)) (bound_below core (suc count) f)
    unfolding bound_below
    one_more f = elim (cases_eq f count) [
      | inl same ↦ (
          let there : slice_get (costs ++ x ∷ []) f ≡ Some x = ap (slice_get (costs ++ x ∷ [])) (same ∙ sym below.long) ∙ last_item costs x in
          let own : IsCostOf (or_absent (slice_get (costs ++ x ∷ []) f)) (function_bound (bound_with (bound_below core count)) (slice_get core.funs count)) =
          subst (λ o. IsCostOf (or_absent o) (function_bound (bound_with (bound_below core count)) (slice_get core.funs count))) (sym there)
          (subst (λ o. IsCostOf x (function_bound (bound_with (bound_below core count)) o)) (sym found) is) in
          rw (eq-eqb f count same) own)
      | inr other ↦ (
          let old : IsCostOf (or_absent (slice_get (costs ++ x ∷ []) f)) (bound_below core count f) =
          subst (λ o. IsCostOf (or_absent o) (bound_below core count f)) (sym (other_item costs x f (λ e. other (e ∙ below.long)))) (below.each.each f) in
          rw (ne_eqb f count other) old)
    ]

    pub next_cost : AreCostsBelow core (count + 1) (costs ++ x ∷ [])
    next_cost = record {
      long = long_one costs x ∙ ap suc below.long ∙ sym (add-one count);
      each = record { each = λ f. rw add-one (one_more f) };
    }
