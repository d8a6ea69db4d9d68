-- A rule with more positions than there are inputs.
use Rattle.std.proofs.Common.{◌≡◌, ℕ, zero, suc, ◌<◌, ◌≤◌, List, [], ◌∷◌, drop, length, Option, Some, None, true, false, slice_get, refl, drop-cons}
use Rattle.std.proofs.lemmas.Grind.{common_steps}
use Rattle.std.proofs.lemmas.Bool.{and_parts}
use Rattle.std.proofs.lemmas.List.{drop_all}
use Rattle.std.specs.Option.{is_some, option_flatten}
use Rattle.hume_base.specs.declared.types.Value.{Value}
use Rattle.hume_model.specs.declared.core_tree.InPat.{InPat}
use Rattle.hume_model.specs.declared.core_tree.InPat.TheVariants.{Star, AnyStar, Any, Built}
use Rattle.hume_model.specs.Matching.{fits, taken_at, bound}

pub fits-short : (pats : List InPat) (ins : List (Option Value)) (i : ℕ) → i < length pats → length ins ≤ i → fits (drop i pats) (drop i ins) ≡ false
fits-short pats ins i within short = rw (drop-cons pats i Star, drop_all i ins short) refl

pub taken_at-short : (pats : List InPat) (ins : List (Option Value)) (i : ℕ) → i < length pats → length ins ≤ i → taken_at (drop i pats) (drop i ins) ≡ []
taken_at-short pats ins i within short = rw (drop-cons pats i Star, drop_all i ins short) refl

pub bound-short : (pats : List InPat) (ins : List (Option Value)) (i : ℕ) → i < length pats → length ins ≤ i → bound (drop i pats) (drop i ins) ≡ []
bound-short pats ins i within short = rw (drop-cons pats i Star, drop_all i ins short) refl

-- what a rule that fits takes is there
pub taken_is_there : (pats : List InPat) (ins : List (Option Value)) (i : ℕ) → fits pats ins ≡ true → slice_get (taken_at pats ins) i ≡ Some true
    → is_some (option_flatten (slice_get ins i)) ≡ true
taken_is_there [] ins i fit taken = cc
taken_is_there (pat ∷ pats) [] i fit taken = cc
taken_is_there (Star ∷ pats) (input ∷ ins) zero fit taken = cc
taken_is_there (AnyStar ∷ pats) (input ∷ ins) zero fit taken = let e : is_some input ≡ true = cc in e
taken_is_there (Any ∷ pats) (input ∷ ins) zero fit taken = (and_parts _ _ fit).0
taken_is_there (Built pattern ∷ pats) (None ∷ ins) zero fit taken = cc
taken_is_there (Built pattern ∷ pats) (Some value ∷ ins) zero fit taken = refl
taken_is_there (pat ∷ pats) (input ∷ ins) (suc i) fit taken = taken_is_there pats ins i (and_parts _ _ fit).1 taken

pub ruleset position_steps = (common_steps, fits-short, taken_at-short, bound-short)
