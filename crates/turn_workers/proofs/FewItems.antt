-- Crossing wires are no more than wires.
use Rattle.std.proofs.Common.{◌≡◌, ◌+◌, ◌^◌, ◌<◌, ◌≤◌, ℕ, zero, suc, true, false, eqb, ne_eqb, List, [], ◌∷◌, length, Some, slice_get, refl, ap, sym, ◌∙◌, arith}
use mathlib.Core.Logic.{dite}
use native.Mathlib.Decide.{ℕ_discrete}
use Rattle.std.specs.List.{AllByRecursion, IsDistinct, list_any}
use Rattle.std.proofs.lemmas.List.{length-map}
use Rattle.std.proofs.lemmas.Map.Steps.{length-le_from_distinct_below}
use Rattle.hume_net.specs.declared.plan.Plan.{Plan}
use Rattle.hume_net.specs.Plan.{producer_of, wires_of}
use Rattle.superstep_core.specs.declared.grouping.Grouping.{Grouping}
use Rattle.superstep_core.specs.Groups.{group_of, IsGrouping, quotient}
use Rattle.turn_locker.specs.Held.{items_of}

place_of : (xs : List ℕ) (q : ℕ) → list_any (eqb q) xs ≡ true → (k : ℕ) × (slice_get xs k ≡ Some q)
place_of [] q is = absurd (cc)
place_of (x ∷ xs) q is = dite (ℕ_discrete q x)
    (λ same. (zero, ap (λ y. Some y) (sym same)))
    (λ other. let rest = place_of xs q (sym (rw (ne_eqb q x other) refl) ∙ is) in (suc rest.0, rest.1))

apart : (x : ℕ) (xs : List ℕ) → ((k y : ℕ) → slice_get xs k ≡ Some y → x ≡ y → ⊥) → AllByRecursion (λ y. eqb x y ≡ false) xs
apart x [] differ = tt
apart x (y ∷ ys) differ = (ne_eqb x y (differ zero y refl), apart x ys (λ k z at. differ (suc k) z at))

distinct : (xs : List ℕ) → ((j k y : ℕ) → slice_get xs j ≡ Some y → slice_get xs k ≡ Some y → j ≡ k) → IsDistinct eqb xs
unfolding IsDistinct
distinct [] once = tt
distinct (x ∷ xs) once = (
  apart x xs (λ k y at same. let none : zero ≡ suc k = once zero (suc k) x refl (at ∙ ap (λ z. Some z) (sym same)) in omega (arith, none)),
  distinct xs (λ j k y first second. let both : suc j ≡ suc k = once (suc j) (suc k) y first second in omega (arith, both)),
)

pub few_crossing : (plan : Plan) (g : Grouping) → IsGrouping plan g → length g.crossing ≤ wires_of plan
few_crossing plan g grouping = length-le_from_distinct_below g.crossing (wires_of plan) (distinct g.crossing grouping.once)
    (λ q is. let at = place_of g.crossing q is in (grouping.crosses at.0 q at.1).0)

pub few_items : (plan : Plan) (g : Grouping) → IsGrouping plan g → g.count + wires_of plan < 2 ^ 32 → items_of (quotient plan g) < 2 ^ 32
few_items plan g grouping few =
    let crossing = few_crossing plan g grouping in
    let same = length-map g.crossing (λ w. group_of g (producer_of plan w)) in
    omega (arith, crossing, same, few)
