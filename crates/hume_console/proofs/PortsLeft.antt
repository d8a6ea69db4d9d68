-- The ports that are left once one of them has gone.
use Rattle.std.proofs.Common.{◌≡◌, ℕ, zero, suc, cond, Bool, true, false, List, [], ◌∷◌, refl, ap, sym, ◌∙◌, subst, inl, inr, Some}
use Rattle.std.specs.List.{remove}
use Rattle.std.specs.Str.{bytes_eq}
use Rattle.std.proofs.lemmas.Bool.{true≢false, cases_Bool}
use Rattle.hume_ports.specs.Port.{PortView}
use Rattle.hume_ports.specs.Ports.{names, of_first, place_of}
use Rattle.hume_ports.specs.Delivery.{Pairs, EachPort, bytes_for, without}
use Rattle.hume_ports.proofs.EachPort.{EachPort-same, SameBytes}
use Rattle.hume_ports.proofs.Names.{bytes_eq-self, bytes_for-without, place-suc, place-zero, same_name}

-- names of which neither is the other's
pub differ_eq : (a b : List ℕ) → (a ≡ b → ⊥) → bytes_eq a b ≡ false
differ_eq a b differ = elim (cases_Bool (bytes_eq a b)) [ inl is ↦ absurd (differ (same_name a b is)) | inr isnt ↦ isnt ]

pub eq_differ : (a b : List ℕ) → bytes_eq a b ≡ false → a ≡ b → ⊥
eq_differ a b isnt same = true≢false (sym (bytes_eq-self b) ∙ ap (λ n. bytes_eq n b) (sym same) ∙ isnt)

-- the bytes of another name are kept
pub others_kept : (name other : List ℕ) (pairs : Pairs) → (name ≡ other → ⊥) → bytes_for name (without other pairs) ≡ bytes_for name pairs
others_kept name other pairs differ = bytes_for-without name other pairs ∙ ap (λ b. cond b [] (bytes_for name pairs)) (differ_eq name other differ)

pub own_gone : (name : List ℕ) (pairs : Pairs) → bytes_for name (without name pairs) ≡ []
own_gone name pairs = bytes_for-without name name pairs ∙ ap (λ b. cond b [] (bytes_for name pairs)) (bytes_eq-self name)

-- two names may be left out in any order
either_first : (a b : List ℕ) (pairs : Pairs) → SameBytes (without a (without b pairs)) (without b (without a pairs))
either_first a b pairs name =
    bytes_for-without name a (without b pairs) ∙ ap (cond (bytes_eq name a) []) (bytes_for-without name b pairs)
    ∙ swapped (bytes_eq name a) (bytes_eq name b)
    ∙ sym (bytes_for-without name b (without a pairs) ∙ ap (cond (bytes_eq name b) []) (bytes_for-without name a pairs))
  where
    swapped : (x y : Bool) → cond x [] (cond y [] (bytes_for name pairs)) ≡ cond y [] (cond x [] (bytes_for name pairs))
    swapped true true = refl
    swapped true false = refl
    swapped false true = refl
    swapped false false = refl

-- each of the others has moved as it had
pub each_left : (moves : PortView → PortView → List ℕ → Type 0) (name : List ℕ) (olds news : List PortView) (pairs : Pairs) (at : ℕ) → names news ≡ names olds
    → place_of name (names olds) ≡ Some at → EachPort moves olds news pairs → EachPort moves (remove olds at) (remove news at) (without name pairs)
each_left moves name [] news pairs at same e d = cc
each_left moves name (old ∷ olds) [] pairs at same e d = absurd d
each_left moves name (old ∷ olds) (new ∷ news) pairs zero same e d =
    let here = place-zero (bytes_eq old.name name) (place_of name (names olds)) e in
    subst (λ n. EachPort moves olds news (without n pairs)) (same_name old.name name here) d.1
each_left moves name (old ∷ olds) (new ∷ news) pairs (suc at) same e d =
    let behind = place-suc (bytes_eq old.name name) (place_of name (names olds)) at e in
    let tails : names news ≡ names olds = cc in
    let differ : old.name ≡ name → ⊥ = eq_differ old.name name behind.0 in (
      subst (moves old new) (sym (others_kept old.name name pairs differ)) d.0,
      EachPort-same moves (remove olds at) (remove news at) (without name (without old.name pairs)) (without old.name (without name pairs))
          (either_first name old.name pairs) (each_left moves name olds news (without old.name pairs) at tails behind.1 d.1),
    )

-- what is so of the first port of another name is so still
pub first_left : {X : Type 0} (default : X) (fact : PortView → X) (name other : List ℕ) (ports : List PortView) (at : ℕ) → place_of name (names ports) ≡ Some at
    → (other ≡ name → ⊥) → of_first default fact other (remove ports at) ≡ of_first default fact other ports
first_left default fact name other [] at e differ = cc
first_left default fact name other (port ∷ ports) zero e differ =
    let here = same_name port.name name (place-zero (bytes_eq port.name name) (place_of name (names ports)) e) in
    let isnt : bytes_eq port.name other ≡ false = ap (λ n. bytes_eq n other) here ∙ differ_eq name other (λ same. differ (sym same)) in
    sym (ap (λ b. cond b (fact port) (of_first default fact other ports)) isnt)
first_left default fact name other (port ∷ ports) (suc at) e differ =
    let behind = place-suc (bytes_eq port.name name) (place_of name (names ports)) at e in
    ap (cond (bytes_eq port.name other) (fact port)) (first_left default fact name other ports at behind.1 differ)
