-- The sets of functions, one after another.
use Rattle.std.proofs.Common.{◌≡◌, ◌≢◌, ℕ, zero, suc, ◌+◌, ◌<◌, List, [], ◌∷◌, ◌++◌, length, Some, slice_get, refl, ap, sym, ◌∙◌, inl, inr, add-one}
use Rattle.std.proofs.lemmas.Bool.{cases_eq, eq-eqb, ne_eqb}
use Rattle.hume_base.specs.declared.limits.TheConstants.{MAX_EXCEPTIONS}
use Rattle.hume_model.specs.declared.core_tree.FunC.{FunC}
use Rattle.hume_model.specs.declared.core_tree.Core.{Core}
use Rattle.hume_model.specs.Raising.{raises_with, function_raises, raises_below}
use Rattle.hume_exceptions.specs.declared.exn_set.ExnSet.{ExnSet}
use Rattle.hume_exceptions.specs.Sets.{IsSetOf, in_set, called_by}

-- the sets of the first so many functions
pub record AreSetsBelow (core : Core) (count : ℕ) (sets : List ExnSet) : Type 0 where
  pub long : length sets ≡ count
  pub each : (exn function : ℕ) → exn < MAX_EXCEPTIONS → called_by sets exn function ≡ raises_below core count exn function

last_item : {X : Type 0} (xs : List X) (x : X) → slice_get (xs ++ x ∷ []) (length xs) ≡ Some x
last_item [] x = refl
last_item (y ∷ xs) x = last_item xs x

other_item : {X : Type 0} (xs : List X) (x : X) (i : ℕ) → i ≢ length xs → slice_get (xs ++ x ∷ []) i ≡ slice_get xs i
other_item [] x zero other = absurd (other refl)
other_item [] x (suc i) other = refl
other_item (y ∷ xs) x zero other = refl
other_item (y ∷ xs) x (suc i) other = other_item xs x i (λ e. other (ap suc e))

long_one : {X : Type 0} (xs : List X) (x : X) → length (xs ++ x ∷ []) ≡ suc (length xs)
long_one [] x = refl
long_one (y ∷ xs) x = ap suc (long_one xs x)

module _ (core : Core) where
  pub no_sets : AreSetsBelow core 0 []
  unfolding raises_below
  no_sets = record { long = refl; each = λ exn function low. refl }

  module _ (count : ℕ) (sets : List ExnSet) (function : FunC) (set : ExnSet) (below : AreSetsBelow core count sets) (found : slice_get core.funs count ≡ Some function)
      (is : IsSetOf set (λ exn. function_raises core.types (raises_with core.types (called_by sets exn) exn) exn (Some function))) where
    same_calls : (exn : ℕ) → exn < MAX_EXCEPTIONS → called_by sets exn ≡ raises_below core count exn
    same_calls exn low = λ i f. below.each exn f low i

    one_more : (exn f : ℕ) → exn < MAX_EXCEPTIONS → called_by (sets ++ set ∷ []) exn f ≡ raises_below core (suc count) exn f
    unfolding raises_below
    one_more exn f low = elim (cases_eq f count) [
      | inl same ↦ (
          let there : slice_get (sets ++ set ∷ []) f ≡ Some set = ap (slice_get (sets ++ set ∷ [])) (same ∙ sym below.long) ∙ last_item sets set in
          let own : called_by (sets ++ set ∷ []) exn f ≡ function_raises core.types (raises_with core.types (raises_below core count exn) exn) exn (slice_get core.funs count) =
          ap (λ s. in_set s exn) there ∙ is.each exn low
          ∙ ap (λ called. function_raises core.types (raises_with core.types called exn) exn (Some function)) (same_calls exn low)
          ∙ ap (function_raises core.types (raises_with core.types (raises_below core count exn) exn) exn) (sym found) in
          own ∙ rw (eq-eqb f count same) refl)
      | inr other ↦ (
          let old : called_by (sets ++ set ∷ []) exn f ≡ raises_below core count exn f =
          ap (λ s. in_set s exn) (other_item sets set f (λ e. other (e ∙ below.long))) ∙ below.each exn f low in
          old ∙ rw (ne_eqb f count other) refl)
    ]

    pub next_set : AreSetsBelow core (count + 1) (sets ++ set ∷ [])
    next_set = record {
      long = long_one sets set ∙ ap suc below.long ∙ sym (add-one count);
      each = λ exn f low. rw add-one (one_more exn f low);
    }
