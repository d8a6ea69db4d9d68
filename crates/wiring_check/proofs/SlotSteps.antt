-- Slots that hold the first wires go on to do so with one more wire.
use Rattle.std.proofs.Common.{◌≡◌, ◌≢◌, ℕ, zero, suc, ◌+◌, ◌<◌, ◌==◌, ◌&&◌, Bool, true, false, if◌then◌else◌, List, [], ◌∷◌, ◌++◌, length, take, replicate, Option, Some, None, slice_get, slice_set, slice_index_or, refl, ap, sym, ◌∙◌, subst, arith, inl, inr}
use Rattle.std.proofs.lemmas.Bool.{and_parts, cases_eq, eqb-true, eq-eqb}
use Rattle.std.proofs.lemmas.Option.{slice_get_within, slice_get-map, get_or_from_slice_get}
use Rattle.std.proofs.lemmas.List.{take_more, take_all, length-take-le}
use Rattle.std.specs.Option.{option_map, option_flatten, is_some}
use Rattle.hume_model.specs.declared.core_tree.NodeC.{NodeC}
use Rattle.hume_model.specs.declared.core_tree.WireC.{WireC}
use Rattle.hume_model.specs.declared.core_tree.Core.{Core}
use Rattle.hume_model.specs.WireEnds.{HasEnds}
use Rattle.wiring_check.specs.declared.side.Side.{Side}
use Rattle.wiring_check.specs.declared.side.Side.TheVariants.{Inputs, Outputs}
use Rattle.wiring_check.specs.inner.Slots.{Rows, slot, slot_in, with_wire, with_first, HasSlot, HasRows, IsPort, AreFirst, ends_at, end_node, end_port, ports_of, first_wire, empty_row, empty_rows}
use Rattle.wiring_check.proofs.FirstWires.{first_kept, first_added, first_same}

get_set_same : {X : Type 0} (xs : List X) (i : ℕ) (y : X) → i < length xs → slice_get (slice_set xs i y) i ≡ Some y
get_set_same [] i y lt = absurd (omega arith)
get_set_same (x ∷ xs) zero y lt = refl
get_set_same (x ∷ xs) (suc i) y lt = get_set_same xs i y (omega arith)

get_set_other : {X : Type 0} (xs : List X) (i j : ℕ) (y : X) → i ≢ j → slice_get (slice_set xs i y) j ≡ slice_get xs j
get_set_other [] i j y other = refl
get_set_other (x ∷ xs) zero zero y other = absurd (other refl)
get_set_other (x ∷ xs) zero (suc j) y other = refl
get_set_other (x ∷ xs) (suc i) zero y other = refl
get_set_other (x ∷ xs) (suc i) (suc j) y other = get_set_other xs i j y (λ e. other (ap suc e))

length_set : {X : Type 0} (xs : List X) (i : ℕ) (y : X) → length (slice_set xs i y) ≡ length xs
length_set [] i y = refl
length_set (x ∷ xs) zero y = refl
length_set (x ∷ xs) (suc i) y = ap suc (length_set xs i y)

module _ (rows : Rows) (n i w : ℕ) (has : HasSlot rows n i) where
  row_is : slice_index_or rows n [] ≡ has.row
  row_is = get_or_from_slice_get rows n has.row [] has.there

  there_now : slice_get (with_wire rows n i w) n ≡ Some (slice_set has.row i (Some w))
  there_now = rw row_is (get_set_same rows n (slice_set has.row i (Some w)) (slice_get_within rows n has.row has.there))

  pub slot_put : slot (with_wire rows n i w) n i ≡ Some w
  slot_put = ap (λ r. slot_in r i) there_now ∙ ap option_flatten (get_set_same has.row i (Some w) has.within)

  pub slot_other : (m j : ℕ) → ((n ≡ m) × (i ≡ j) → ⊥) → slot (with_wire rows n i w) m j ≡ slot rows m j
  slot_other m j other = elim (cases_eq n m) [
    | inl same ↦ (
        let apart : i ≢ j = (λ e. other (same, e)) in
        subst (λ k. slot (with_wire rows n i w) k j ≡ slot rows k j) same
        (ap (λ r. slot_in r j) there_now ∙ ap option_flatten (get_set_other has.row i j (Some w) apart) ∙ sym (ap (λ r. slot_in r j) has.there)))
    | inr apart ↦ ap (λ r. slot_in r j) (get_set_other rows n m (slice_set (slice_index_or rows n []) i (Some w)) apart)
  ]

  pub still_has : (m j : ℕ) → HasSlot rows m j → HasSlot (with_wire rows n i w) m j
  still_has m j old = elim (cases_eq n m) [
    | inl same ↦ (
        let is : has.row ≡ old.row = (let h = sym has.there ∙ ap (λ k. slice_get rows k) same ∙ old.there in cc) in
        record {
          row = slice_set has.row i (Some w);
          there = ap (λ k. slice_get (with_wire rows n i w) k) (sym same) ∙ there_now;
          within = subst (λ k. j < k) (sym (length_set has.row i (Some w) ∙ ap (λ (r : List (Option ℕ)). length r) is)) old.within;
        })
    | inr apart ↦ record {
      row = old.row;
      there = get_set_other rows n m (slice_set (slice_index_or rows n []) i (Some w)) apart ∙ old.there;
      within = old.within;
    }
  ]

  pub had_slot : (m j : ℕ) → HasSlot (with_wire rows n i w) m j → HasSlot rows m j
  had_slot m j new = elim (cases_eq n m) [
    | inl same ↦ (
        let is : slice_set has.row i (Some w) ≡ new.row = (let h = sym there_now ∙ ap (λ k. slice_get (with_wire rows n i w) k) same ∙ new.there in cc) in
        record {
          row = has.row;
          there = ap (λ k. slice_get rows k) (sym same) ∙ has.there;
          within = subst (λ k. j < k) (ap (λ (r : List (Option ℕ)). length r) (sym is) ∙ length_set has.row i (Some w)) new.within;
        })
    | inr apart ↦ record {
      row = new.row;
      there = sym (get_set_other rows n m (slice_set (slice_index_or rows n []) i (Some w)) apart) ∙ new.there;
      within = new.within;
    }
  ]

ends_form : (side : Side) (n i : ℕ) (wire : WireC) → ends_at side n i wire ≡ ((end_node side wire == n) && (end_port side wire == i))
ends_form Inputs n i wire = refl
ends_form Outputs n i wire = refl

pub ends_here : (side : Side) (wire : WireC) → ends_at side (end_node side wire) (end_port side wire) wire ≡ true
ends_here side wire = ends_form side _ _ wire ∙ rw (eq-eqb (end_node side wire) (end_node side wire) refl, eq-eqb (end_port side wire) (end_port side wire) refl) refl

pub ends_where : (side : Side) (n i : ℕ) (wire : WireC) → ends_at side n i wire ≡ true → (end_node side wire ≡ n) × (end_port side wire ≡ i)
ends_where side n i wire is = let ps = and_parts _ _ (sym (ends_form side n i wire) ∙ is) in (eqb-true _ _ ps.0, eqb-true _ _ ps.1)

-- where a wire ends there is a slot
pub has_end : (core : Core) (side : Side) (rows : Rows) (wire : WireC) → HasRows core side rows → HasEnds core wire → HasSlot rows (end_node side wire) (end_port side wire)
has_end core Inputs rows wire slots ends = slots wire.to wire.to_port ends.consumer ends.to ends.to_port
has_end core Outputs rows wire slots ends = slots wire.from wire.from_port ends.producer ends.from ends.from_port

module _ (core : Core) (side : Side) where
  none_in : (count i : ℕ) → option_flatten (slice_get (replicate {A = Option ℕ} count None) i) ≡ None
  none_in zero i = refl
  none_in (suc count) zero = refl
  none_in (suc count) (suc i) = none_in count i

  long : (count : ℕ) → length (replicate {A = Option ℕ} count None) ≡ count
  long zero = refl
  long (suc count) = ap suc (long count)

  empty_in : (o : Option NodeC) (i : ℕ) → slot_in (option_map (empty_row side) o) i ≡ None
  empty_in None i = refl
  empty_in (Some node) i = none_in (ports_of side node) i

  port_of : (n i : ℕ) (o : Option NodeC) → slice_get core.nodes n ≡ o → HasSlot (empty_rows side core.nodes) n i → IsPort core side n i
  port_of n i None at has = let h = sym (slice_get-map (empty_row side) core.nodes n ∙ ap (option_map (empty_row side)) at) ∙ has.there in cc
  port_of n i (Some node) at has =
      let is : empty_row side node ≡ has.row = (let h = sym (slice_get-map (empty_row side) core.nodes n ∙ ap (option_map (empty_row side)) at) ∙ has.there in cc) in
      record { node = node; there = at; within = subst (λ k. i < k) (ap (λ (r : List (Option ℕ)). length r) (sym is) ∙ long (ports_of side node)) has.within }

  -- before the first wire
  pub first_start : AreFirst core side 0 (empty_rows side core.nodes)
  first_start = record {
    slots = λ n i node at within. record {
      row = empty_row side node;
      there = slice_get-map (empty_row side) core.nodes n ∙ ap (option_map (empty_row side)) at;
      within = subst (λ k. i < k) (sym (long (ports_of side node))) within;
    };
    ports = λ n i has. port_of n i (slice_get core.nodes n) refl has;
    each = λ n i. ap (λ r. slot_in r i) (slice_get-map (empty_row side) core.nodes n) ∙ empty_in (slice_get core.nodes n) i;
  }

  module _ (k : ℕ) (rows : Rows) (wire : WireC) (first : AreFirst core side k rows) (at : slice_get core.wires k ≡ Some wire)
      (has : HasSlot rows (end_node side wire) (end_port side wire)) where
    next : take (k + 1) core.wires ≡ take k core.wires ++ wire ∷ []
    next =
        let within = slice_get_within core.wires k wire at in
        take_more core.wires k wire within ∙ ap (λ x. take k core.wires ++ x ∷ []) (get_or_from_slice_get core.wires k wire wire at)

    known : length (take k core.wires) ≡ k
    known = let within : k < length core.wires = slice_get_within core.wires k wire at in length-take-le k core.wires (omega arith)

    abbrev test : ℕ → ℕ → WireC → Bool
    test n i = ends_at side n i

    abbrev before : ℕ → ℕ → Option ℕ
    before n i = first_wire (test n i) (take k core.wires)

    after : (n i : ℕ) → first_wire (test n i) (take k core.wires ++ wire ∷ []) ≡ first_wire (test n i) (take (k + 1) core.wires)
    after n i = ap (first_wire (test n i)) (sym next)

    -- the slot of the wire is taken
    taken : is_some (slot rows (end_node side wire) (end_port side wire)) ≡ true → AreFirst core side (k + 1) rows
    taken is = record { slots = first.slots; ports = first.ports; each = λ n i. by n i (test n i wire) refl }
      where
        by : (n i : ℕ) (b : Bool) → test n i wire ≡ b → slot rows n i ≡ first_wire (test n i) (take (k + 1) core.wires)
        by n i false fails = first.each n i ∙ sym (first_same (test n i) _ wire fails) ∙ after n i
        by n i true passes =
            let ends = ends_where side n i wire passes in
            let there : is_some (slot rows n i) ≡ true = subst (λ m. is_some (slot rows m i) ≡ true) ends.0 (subst (λ j. is_some (slot rows (end_node side wire) j) ≡ true) ends.1 is) in
            first.each n i ∙ sym (first_kept (test n i) _ wire (ap is_some (sym (first.each n i)) ∙ there)) ∙ after n i

    free : is_some (slot rows (end_node side wire) (end_port side wire)) ≡ false → AreFirst core side (k + 1) (with_wire rows (end_node side wire) (end_port side wire) k)
    free is = record {
      slots = λ n i node there within. still_has rows _ _ k has n i (first.slots n i node there within);
      ports = λ n i new. first.ports n i (had_slot rows _ _ k has n i new);
      each = λ n i. by n i (test n i wire) refl;
    }
      where
        by : (n i : ℕ) (b : Bool) → test n i wire ≡ b → slot (with_wire rows (end_node side wire) (end_port side wire) k) n i ≡ first_wire (test n i) (take (k + 1) core.wires)
        by n i false fails =
            slot_other rows _ _ k has n i (λ e. (let h : test n i wire ≡ true = subst (λ m. test m i wire ≡ true) e.0 (subst (λ j. test (end_node side wire) j wire ≡ true) e.1 (ends_here side wire)) in let g : false ≡ true = sym fails ∙ h in cc))
            ∙ first.each n i ∙ sym (first_same (test n i) _ wire fails) ∙ after n i
        by n i true passes =
            let ends = ends_where side n i wire passes in
            let none : is_some (slot rows n i) ≡ false = subst (λ m. is_some (slot rows m i) ≡ false) ends.0 (subst (λ j. is_some (slot rows (end_node side wire) j) ≡ false) ends.1 is) in
            let put : slot (with_wire rows (end_node side wire) (end_port side wire) k) n i ≡ Some k =
            subst (λ m. slot (with_wire rows (end_node side wire) (end_port side wire) k) m i ≡ Some k) ends.0
            (subst (λ j. slot (with_wire rows (end_node side wire) (end_port side wire) k) (end_node side wire) j ≡ Some k) ends.1 (slot_put rows _ _ k has)) in
            put ∙ ap Some (sym known) ∙ sym (first_added (test n i) _ wire (ap is_some (sym (first.each n i)) ∙ none) passes) ∙ after n i

    -- with one more wire
    pub first_more : AreFirst core side (k + 1) (with_first rows (end_node side wire) (end_port side wire) k)
    first_more = by (is_some (slot rows (end_node side wire) (end_port side wire))) refl
      where
        by : (b : Bool) → is_some (slot rows (end_node side wire) (end_port side wire)) ≡ b
            → AreFirst core side (k + 1) (if b then rows else with_wire rows (end_node side wire) (end_port side wire) k)
        by true is = taken is
        by false is = free is

  pub all_first : (rows : Rows) → AreFirst core side (length core.wires) rows → (n i : ℕ) → slot rows n i ≡ first_wire (ends_at side n i) core.wires
  all_first rows first n i = first.each n i ∙ ap (first_wire (ends_at side n i)) (take_all (length core.wires) core.wires (omega arith))
