-- What slots hold, and what is left in them where some are emptied.
use Rattle.std.proofs.Common.{◌≡◌, ℕ, zero, suc, ◌+◌, ◌<◌, ◌≤◌, List, [], ◌∷◌, ◌++◌, length, drop, take, get_or, Option, Some, None, refl, ap, sym, ◌∙◌, append_assoc, append-nil, arith}
use Rattle.std.specs.Prelude.{slice_set}
use Rattle.std.specs.List.{filter_map, cons_option}
use Rattle.std.proofs.lemmas.List.{drop_all, get_or-drop, length-drop, length-take, get_or-take, get_or_default}
use Rattle.check_tables.specs.graph.Orders.{IsOrder}
use Rattle.hume_check.specs.inner.CoreTrees.{HasNoneTwice, slot_at}
use Rattle.hume_check.proofs.nodes_lemmas.Gathered.{split_at}

-- an order of numbers has none of them twice
pub none_twice : (graph : List (List ℕ)) (order : List ℕ) → IsOrder graph order → HasNoneTwice order
none_twice graph order is j k before within same =
    let front : j < length (take k order) = omega (arith, before, within, length-take k order) in
    (is.numbering k within).0.new' (
      j,
      front,
      get_or_default (take k order) j (get_or order k 0) 0 front ∙ get_or-take k order j 0 before ∙ same,
    )

module _ {A : Type 0} where
  -- another slot holds what it held
  slot_kept : (slots : List (Option A)) (x y : ℕ) → (y ≡ x → ⊥) → slot_at (slice_set slots x None) y ≡ slot_at slots y
  slot_kept [] x y other = refl
  slot_kept (slot ∷ slots) zero zero other = absurd (other refl)
  slot_kept (slot ∷ slots) zero (suc y) other = refl
  slot_kept (slot ∷ slots) (suc x) zero other = refl
  slot_kept (slot ∷ slots) (suc x) (suc y) other = slot_kept slots x y (λ same. other (ap suc same))

  -- so do all slots but the one that is emptied
  slots_kept : (slots : List (Option A)) (x : ℕ) (numbers : List ℕ) → ((k : ℕ) → k < length numbers → get_or numbers k 0 ≡ x → ⊥)
      → filter_map (slot_at (slice_set slots x None)) numbers ≡ filter_map (slot_at slots) numbers
  slots_kept slots x [] others = refl
  slots_kept slots x (number ∷ numbers) others =
      let first = slot_kept slots x number (others 0 (omega arith)) in
      let rest = slots_kept slots x numbers (λ k lt. others (suc k) (omega (arith, lt))) in
      λ i. cons_option (first i) (rest i)

  module _ (order : List ℕ) (once : HasNoneTwice order) (all : List A) where
    -- what was found, and what is left from a place of the order on, are all
    abbrev AreAll : List A → List (Option A) → ℕ → Type 0
    AreAll found slots at = found ++ filter_map (slot_at slots) (drop at order) ≡ all

    pub all_taken : (found : List A) (slots : List (Option A)) (at : ℕ) → length order ≤ at → AreAll found slots at → found ≡ all
    all_taken found slots at past are =
        sym (append-nil found) ∙ ap (λ numbers. found ++ filter_map (slot_at slots) numbers) (sym (drop_all at order past)) ∙ are

    module _ (at number : ℕ) (within : at < length order) (is : number ≡ get_or order at 0) where
      -- the number doesn't stand further on
      new_further : (k : ℕ) → k < length (drop (at + 1) order) → get_or (drop (at + 1) order) k 0 ≡ number → ⊥
      new_further k lt same =
          once at (at + 1 + k) (omega arith) (omega (arith, lt, length-drop (at + 1) order))
          (sym is ∙ sym same ∙ get_or-drop (at + 1) order k 0)

      module _ (found : List A) (slots new_slots : List (Option A)) (before : AreAll found slots at)
          (emptied : new_slots ≡ slice_set slots number None) where
        abbrev rest : List A
        rest = filter_map (slot_at new_slots) (drop (at + 1) order)

        rest_is : rest ≡ filter_map (slot_at slots) (drop (at + 1) order)
        rest_is =
            ap (λ (s : List (Option A)). filter_map (slot_at s) (drop (at + 1) order)) emptied
            ∙ slots_kept slots number (drop (at + 1) order) new_further

        left_is : cons_option (slot_at slots number) rest ≡ filter_map (slot_at slots) (drop at order)
        left_is =
            ap (cons_option (slot_at slots number)) rest_is
            ∙ ap (filter_map (slot_at slots)) (sym (split_at order at number 0 within is))

        pub one_taken : (x : A) (new : List A) → Some x ≡ slot_at slots number → new ≡ found ++ x ∷ [] → AreAll new new_slots (at + 1)
        one_taken x new there longer =
            ap (λ xs. xs ++ rest) longer ∙ append_assoc found (x ∷ []) rest
            ∙ ap (λ xs. found ++ xs) (ap (λ o. cons_option o rest) there ∙ left_is) ∙ before

        pub none_taken : (new : List A) → None ≡ slot_at slots number → new ≡ found → AreAll new new_slots (at + 1)
        none_taken new there same =
            ap (λ xs. xs ++ rest) same ∙ ap (λ xs. found ++ xs) (ap (λ o. cons_option o rest) there ∙ left_is) ∙ before
