-- One wire more: it crosses, or doesn't.
use Rattle.std.proofs.Common.{◌≡◌, ◌+◌, ◌<◌, ◌⊎◌, ℕ, zero, suc, List, [], ◌∷◌, ◌++◌, length, length-append, Some, slice_get, refl, ap, sym, ◌∙◌, subst, inl, inr, arith}
use Rattle.std.proofs.lemmas.Bool.{cases_eq}
use Rattle.std.proofs.lemmas.Option.{slice_get_within}
use Rattle.hume_net.specs.declared.plan.Plan.{Plan}
use Rattle.superstep_core.specs.inner.Crossings.{AreCrossing, AreJoined}

pub last_place : {X : Type 0} (xs : List X) (y : X) → slice_get (xs ++ y ∷ []) (length xs) ≡ Some y
last_place [] y = refl
last_place (x ∷ xs) y = last_place xs y

pub front_place : {X : Type 0} (xs ys : List X) (i : ℕ) → i < length xs → slice_get (xs ++ ys) i ≡ slice_get xs i
front_place [] ys i less = absurd (omega (arith, less))
front_place (x ∷ xs) ys zero less = refl
front_place (x ∷ xs) ys (suc i) less = front_place xs ys i (omega (arith, less))

-- a place of a list with one element more is a place of the list, or the last one
pub one_more : {X : Type 0} (xs : List X) (x : X) (k : ℕ) (y : X) → slice_get (xs ++ x ∷ []) k ≡ Some y → (slice_get xs k ≡ Some y) ⊎ ((k ≡ length xs) × (x ≡ y))
one_more xs x k y at = elim (cases_eq k (length xs)) [
  | inl same ↦ (let both : Some x ≡ Some y = sym (last_place xs x) ∙ ap (slice_get (xs ++ x ∷ [])) (sym same) ∙ at in inr (same, (let is : x ≡ y = cc in is)))
  | inr apart ↦ (
      let inside = slice_get_within (xs ++ x ∷ []) k y at in
      let more = length-append xs (x ∷ []) in
      inl (sym (front_place xs (x ∷ []) k (omega (arith, inside, more, apart))) ∙ at))
]

-- a list of numbers, of which each that is below a number and has a property is there once
pub once_more : (xs : List ℕ) (x : ℕ) → ((k y : ℕ) → slice_get xs k ≡ Some y → y < x)
    → ((j k y : ℕ) → slice_get xs j ≡ Some y → slice_get xs k ≡ Some y → j ≡ k)
    → (j k y : ℕ) → slice_get (xs ++ x ∷ []) j ≡ Some y → slice_get (xs ++ x ∷ []) k ≡ Some y → j ≡ k
once_more xs x below once j k y first second = both_ways (one_more xs x j y first) (one_more xs x k y second)
  where
    above : (p : ℕ) → slice_get xs p ≡ Some y → x ≡ y → ⊥
    above p at same = let low = below p y at in omega (arith, low, same)

    both_ways : (slice_get xs j ≡ Some y) ⊎ ((j ≡ length xs) × (x ≡ y)) → (slice_get xs k ≡ Some y) ⊎ ((k ≡ length xs) × (x ≡ y)) → j ≡ k
    both_ways (inl a) (inl b) = once j k y a b
    both_ways (inl a) (inr b) = absurd (above j a b.1)
    both_ways (inr a) (inl b) = absurd (above k b a.1)
    both_ways (inr a) (inr b) = a.0 ∙ sym b.0

module _ (plan : Plan) (group : List ℕ) where
  pub none_yet : AreCrossing plan group 0 []
  none_yet = record {
    crosses = λ place w at. absurd (let inside = slice_get_within [] place w at in omega (arith, inside));
    all = λ w less. absurd (omega (arith, less));
    once = λ j k w first. absurd (let inside = slice_get_within [] j w first in omega (arith, inside));
  }

  module _ (below : ℕ) (crossing : List ℕ) (so_far : AreCrossing plan group below crossing) where
    pub one_crosses : (AreJoined plan group below → ⊥) → AreCrossing plan group (below + 1) (crossing ++ below ∷ [])
    one_crosses apart = record {
      crosses = λ place w at. elim (one_more crossing below place w at) [
        | inl before ↦ (let it = so_far.crosses place w before in let low = it.0 in (omega (arith, low), it.1))
        | inr last ↦ (let same = last.1 in (omega (arith, same), λ joined. apart (moved (sym same) joined)))
      ];
      all = λ w less crosses. elim (cases_eq w below) [
        | inl same ↦ (length crossing, last_place crossing below ∙ ap (λ x. Some x) (sym same))
        | inr other ↦ (let at = so_far.all w (omega (arith, less, other)) crosses in
            (at.0, front_place crossing (below ∷ []) at.0 (slice_get_within crossing at.0 w at.1) ∙ at.1))
      ];
      once = once_more crossing below (λ k y at. (so_far.crosses k y at).0) so_far.once;
    }
      where
        moved : {w v : ℕ} → w ≡ v → AreJoined plan group w → AreJoined plan group v
        moved e joined = subst (AreJoined plan group) e joined

    pub one_is_inner : AreJoined plan group below → AreCrossing plan group (below + 1) crossing
    one_is_inner joined = record {
      crosses = λ place w at. (let it = so_far.crosses place w at in let low = it.0 in (omega (arith, low), it.1));
      all = λ w less crosses. elim (cases_eq w below) [
        | inl same ↦ absurd (crosses (subst (AreJoined plan group) (sym same) joined))
        | inr other ↦ so_far.all w (omega (arith, less, other)) crosses
      ];
      once = so_far.once;
    }
