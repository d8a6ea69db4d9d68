-- The words that build data types, one after another.
use Rattle.std.proofs.Common.{◌≡◌, ℕ, suc, ◌+◌, List, [], ◌∷◌, ◌++◌, length, Some, slice_get, refl, ap, sym, ◌∙◌, inl, inr, add-one}
use Rattle.std.proofs.lemmas.Bool.{cases_eq, eq-eqb, ne_eqb}
use Rattle.hume_base.specs.declared.types.Types.{Types}
use Rattle.hume_base.specs.declared.types.SumDef.{SumDef}
use Rattle.box_costs.specs.Building.{build_with, build_of_sum, named_build}
use Rattle.space_costs.specs.inner.Standing.{AreBuildsOf, or_zero, counted}
use Rattle.space_costs.proofs.FunctionCosts.{last_item, other_item, long_one}

-- those of the first so many data types
pub record AreBuildsBelow (types : Types) (count : ℕ) (builds : List ℕ) : Type 0 where
  pub long : length builds ≡ count
  pub each : AreBuildsOf builds (named_build types count)

module _ (types : Types) where
  pub no_builds : AreBuildsBelow types 0 []
  unfolding named_build
  no_builds = record { long = refl; each = record { each = λ n. refl } }

  module _ (count : ℕ) (builds : List ℕ) (data_type : SumDef) (x : ℕ) (below : AreBuildsBelow types count builds) (found : slice_get types.sums count ≡ Some data_type)
      (is : x ≡ counted (build_of_sum (build_with (named_build types count)) (Some data_type))) where
    one_more : (n : ℕ) → or_zero (slice_get (builds ++ x ∷ []) n) ≡ counted (named_build types (suc count) n)
    unfolding named_build
    one_more n = elim (cases_eq n count) [
      | inl same ↦ (
          let own : or_zero (slice_get (builds ++ x ∷ []) n) ≡ counted (build_of_sum (build_with (named_build types count)) (slice_get types.sums count)) =
          ap or_zero (ap (slice_get (builds ++ x ∷ [])) (same ∙ sym below.long) ∙ last_item builds x) ∙ is
          ∙ ap (λ o. counted (build_of_sum (build_with (named_build types count)) o)) (sym found) in
          rw (eq-eqb n count same) own)
      | inr other ↦ (
          let old : or_zero (slice_get (builds ++ x ∷ []) n) ≡ counted (named_build types count n) =
          ap or_zero (other_item builds x n (λ e. other (e ∙ below.long))) ∙ below.each.each n in
          rw (ne_eqb n count other) old)
    ]

    pub next_build : AreBuildsBelow types (count + 1) (builds ++ x ∷ [])
    next_build = record {
      long = long_one builds x ∙ ap suc below.long ∙ sym (add-one count);
      each = record { each = λ n. rw add-one (one_more n) };
    }
