-- The first of a list that passes a test; where just one does, it is that one. So a node sees what is on its one wire.
use Rattle.std.proofs.Common.{◌≡◌, ℕ, zero, suc, ◌<◌, nat_lt, Bool, true, false, cond, List, [], ◌∷◌, length, Some, None, slice_get, refl, ap, ◌∙◌, sym, subst, inl, inr, arith}
use Rattle.std.proofs.lemmas.Bool.{lt-ltb, ltb-true}
use Rattle.std.specs.List.{position, position_or_len}
use Rattle.hume_base.proofs.Tables.{chosen}
use Rattle.hume_model.specs.declared.core_tree.WireC.{WireC}
use Rattle.hume_model.specs.declared.core_tree.Core.{Core}
use Rattle.hume_model.specs.Wiring.{IsTheWire}
use Rattle.hume_net.specs.declared.state.State.{State}
use Rattle.hume_net.specs.Sides.{on_wire, on_found}

-- the first that passes, by whether it is the head
abbrev First : {X : Type 0} → (X → Bool) → List X → Type 0
First {X = X} test xs = (x : X) × (slice_get xs (position_or_len test xs) ≡ Some x) × (test x ≡ true)

head_or_later : {X : Type 0} (test : X → Bool) (x : X) (xs : List X) → (position_or_len test xs < length xs → First test xs)
    → position_or_len test (x ∷ xs) < length (x ∷ xs) → (b : Bool) → test x ≡ b → First test (x ∷ xs)
head_or_later test x xs later within true e =
    let at : position_or_len test (x ∷ xs) ≡ zero = rw e refl in
    (x, subst (λ k. slice_get (x ∷ xs) k ≡ Some x) (sym at) refl, e)
head_or_later test x xs later within false e =
    let at : position_or_len test (x ∷ xs) ≡ suc (position_or_len test xs) = rw e (omega arith) in
    let found = later (let less : suc (position_or_len test xs) < length (x ∷ xs) = rw (← at) within in omega arith) in
    (found.0, subst (λ k. slice_get (x ∷ xs) k ≡ Some found.0) (sym at) found.1, found.2)

first_at : {X : Type 0} (test : X → Bool) (xs : List X) → position_or_len test xs < length xs → First test xs
first_at test [] within = absurd (omega arith)
first_at test (x ∷ xs) within = head_or_later test x xs (first_at test xs) within (test x) refl

pub position_at : {X : Type 0} (test : X → Bool) (xs : List X) (w : ℕ) → position test xs ≡ Some w → (x : X) × (slice_get xs w ≡ Some x) × (test x ≡ true)
position_at test xs w h = elim (chosen (nat_lt (position_or_len test xs) (length xs)) (Some (position_or_len test xs)) None (Some w) h) [
  | inl yes_it ↦ (let found = first_at test xs (ltb-true (position_or_len test xs) (length xs) yes_it.0) in
      let same : position_or_len test xs ≡ w = (let f = yes_it.1 in cc) in
      (found.0, subst (λ k. slice_get xs k ≡ Some found.0) same found.1, found.2))
  | inr none ↦ (let f = none.1 in cc)
]

module _ {X : Type 0} (test : X → Bool) where
  one_further : (x : X) (xs : List X) → position_or_len test xs < length xs → (b : Bool) → test x ≡ b → position_or_len test (x ∷ xs) < length (x ∷ xs)
  one_further x xs later true e = (let at : position_or_len test (x ∷ xs) ≡ zero = rw e refl in omega (arith, at))
  one_further x xs later false e = (let at : position_or_len test (x ∷ xs) ≡ suc (position_or_len test xs) = rw e (omega arith) in omega (arith, at, later))

  -- if one passes, the first that does is within the list
  found_within : (xs : List X) (w : ℕ) (x : X) → slice_get xs w ≡ Some x → test x ≡ true → position_or_len test xs < length xs
  found_within [] w x there passes = cc
  found_within (y ∷ ys) zero x there passes =
      let same : y ≡ x = cc in
      let at : position_or_len test (y ∷ ys) ≡ zero = rw (ap test same ∙ passes) refl in
      omega (arith, at)
  found_within (y ∷ ys) (suc w) x there passes = one_further y ys (found_within ys w x there passes) (test y) refl

pub position_is : (test : WireC → Bool) (wires : List WireC) (w : ℕ) → IsTheWire test wires w → position test wires ≡ Some w
position_is test wires w the =
    let within = found_within test wires w the.wire the.there the.passes in
    let here : position test wires ≡ Some (position_or_len test wires) =
    ap (λ b. cond b (Some (position_or_len test wires)) None) (lt-ltb (position_or_len test wires) (length wires) within) in
    let at = position_at test wires (position_or_len test wires) here in
    here ∙ ap Some (the.alone (position_or_len test wires) at.0 at.1 at.2)

pub sees_wire : (core : Core) (test : WireC → Bool) (w : ℕ) → IsTheWire test core.wires w → (state : State) → on_found state (position test core.wires) ≡ on_wire state w
sees_wire core test w the state = ap (on_found state) (position_is test core.wires w the)
