-- In the state that the half steps of all nodes make, a node's part is what its own made, and a wire holds what that of one
-- node left.
use Rattle.std.proofs.Common.{◌≡◌, ℕ, zero, suc, ◌+◌, ◌<◌, ◌≤◌, List, [], ◌∷◌, map, length, Option, Some, None, slice_get, refl, ap, sym, ◌∙◌, arith}
use Rattle.std.proofs.lemmas.Option.{slice_get-map, slice_get_within}
use Rattle.std.specs.List.{range_with_len}
use Rattle.std.specs.Option.{option_flatten, option_map, unwrap_or}
use Rattle.hume_base.specs.declared.types.Value.{Value}
use Rattle.hume_model.specs.declared.core_tree.NodeC.{NodeC}
use Rattle.hume_model.specs.declared.core_tree.WireC.{WireC}
use Rattle.hume_model.specs.declared.core_tree.Core.{Core}
use Rattle.hume_net.specs.declared.state.State.{State}
use Rattle.hume_net.specs.declared.state.HalfStep.{HalfStep}
use Rattle.hume_net.specs.Sides.{numbered, on_wire, part_of, each_node, executed, executed_at, stepped, stepped_at, left_by, side_at, left_on, gathered, consumed, produced}
use Rattle.hume_net.specs.Lockstep.{mid, up}

numbered_from : {X : Type 0} (a n : ℕ) (says : ℕ → X) (i : ℕ) → i < n → slice_get (map says (range_with_len a n)) i ≡ Some (says (a + i))
numbered_from a zero says i less = absurd (omega arith)
numbered_from a (suc n) says zero less = let same : a ≡ a + 0 = omega arith in ap (λ k. Some (says k)) same
numbered_from a (suc n) says (suc i) less =
    let same : a + 1 + i ≡ a + suc i = omega arith in
    numbered_from (a + 1) n says i (omega arith) ∙ ap (λ k. Some (says k)) same

-- what is said of a number is at its place
pub numbered_get : {X : Type 0} (bound : ℕ) (says : ℕ → X) (i : ℕ) → i < bound → slice_get (numbered bound says) i ≡ Some (says i)
numbered_get bound says i less =
    let same : 0 + i ≡ i = omega arith in
    numbered_from 0 bound says i less ∙ ap (λ k. Some (says k)) same

-- and nothing past the bound
pub numbered_past : {X : Type 0} (a n : ℕ) (says : ℕ → X) (i : ℕ) → n ≤ i → slice_get (map says (range_with_len a n)) i ≡ None
numbered_past a zero says i past = refl
numbered_past a (suc n) says zero past = absurd (omega arith)
numbered_past a (suc n) says (suc i) past = numbered_past (a + 1) n says i (omega arith)

nothing_there : {X : Type 0} (xs : List X) (n : ℕ) → slice_get xs n ≡ None → length xs ≤ n
nothing_there [] n none = omega arith
nothing_there (x ∷ xs) zero none = cc
nothing_there (x ∷ xs) (suc n) none = omega (arith, nothing_there xs n none)

module _ (core : Core) (says : ℕ → HalfStep) where
  half_there : (n : ℕ) (node : NodeC) → slice_get core.nodes n ≡ Some node → slice_get (each_node core says) n ≡ Some (says n)
  half_there n node is = numbered_get (length core.nodes) says n (slice_get_within core.nodes n node is)

  field_there : {X : Type 0} (field : HalfStep → X) (n : ℕ) (node : NodeC) → slice_get core.nodes n ≡ Some node
      → slice_get (map field (each_node core says)) n ≡ Some (field (says n))
  field_there field n node is = slice_get-map field (each_node core says) n ∙ ap (option_map field) (half_there n node is)

  gathered_part : (wires : List (List Value)) (n : ℕ) (node : NodeC) → slice_get core.nodes n ≡ Some node
      → part_of (gathered (each_node core says) wires) n ≡ (says n).part
  gathered_part wires n node is = λ i. record {
    pending = option_flatten (field_there (λ half. half.part.pending) n node is i);
    order = unwrap_or (field_there (λ half. half.part.order) n node is i) [];
    coming = unwrap_or (field_there (λ half. half.part.coming) n node is i) [];
    taken = unwrap_or (field_there (λ half. half.part.taken) n node is i) [];
  }

  left_there : (n place : ℕ) → (slice_get core.nodes n ≡ None → (says n).side ≡ []) → (o : Option NodeC) → slice_get core.nodes n ≡ o
      → left_on (each_node core says) n place ≡ left_by (says n) place
  left_there n place none None is =
      ap (λ (o : Option HalfStep). side_at o place) (numbered_past 0 (length core.nodes) says n (nothing_there core.nodes n is))
      ∙ ap (λ side. unwrap_or (slice_get side place) []) (sym (none is))
  left_there n place none (Some node) is = ap (λ (o : Option HalfStep). side_at o place) (half_there n node is)

pub mapped_at : (f : WireC → List Value) (wires : List WireC) (w : ℕ) (wire : WireC) → slice_get wires w ≡ Some wire → unwrap_or (slice_get (map f wires) w) [] ≡ f wire
mapped_at f wires w wire found = ap (λ o. unwrap_or o []) (slice_get-map f wires w ∙ ap (option_map f) found)

module _ (core : Core) (s : State) where
  pub mid_part : (n : ℕ) (node : NodeC) → slice_get core.nodes n ≡ Some node → part_of (mid core s) n ≡ (executed core s n).part
  mid_part n node is = gathered_part core (executed core s) (consumed core (each_node core (executed core s))) n node is

  pub up_part : (n : ℕ) (node : NodeC) → slice_get core.nodes n ≡ Some node → part_of (up core s) n ≡ (stepped core s n).part
  up_part n node is = gathered_part core (stepped core s) (produced core (each_node core (stepped core s))) n node is

  pub mid_wire : (w : ℕ) (wire : WireC) → slice_get core.wires w ≡ Some wire → on_wire (mid core s) w ≡ left_by (executed core s wire.to) wire.to_port
  mid_wire w wire found =
      mapped_at (λ (x : WireC). left_on (each_node core (executed core s)) x.to x.to_port) core.wires w wire found
      ∙ left_there core (executed core s) wire.to wire.to_port (λ none. ap (λ o. (executed_at core s wire.to o).side) none) (slice_get core.nodes wire.to) refl

  pub up_wire : (w : ℕ) (wire : WireC) → slice_get core.wires w ≡ Some wire → on_wire (up core s) w ≡ left_by (stepped core s wire.from) wire.from_port
  up_wire w wire found =
      mapped_at (λ (x : WireC). left_on (each_node core (stepped core s)) x.from x.from_port) core.wires w wire found
      ∙ left_there core (stepped core s) wire.from wire.from_port (λ none. ap (λ o. (stepped_at core s wire.from o).side) none) (slice_get core.nodes wire.from) refl
