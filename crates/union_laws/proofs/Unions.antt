-- Two programs of a union each run as alone.
use Rattle.std.proofs.Common.{◌≡◌, ◌≢◌, ℕ, zero, suc, ◌+◌, ◌<◌, ◌==◌, ◌&&◌, Bool, false, List, [], ◌++◌, map, length, take, drop, Option, Some, None, slice_get, refl, ap, sym, ◌∙◌, arith, inl, inr}
use Rattle.std.specs.Option.{option_flatten, option_map, unwrap_or}
use Rattle.std.proofs.lemmas.Bool.{cases_eq, eq-eqb, ne_eqb}
use Rattle.std.proofs.lemmas.List.{length-append, length-drop, length-map, length-take}
use Rattle.std.proofs.lemmas.Option.{slice_get-map}
use Rattle.hume_model.specs.declared.core_tree.WireC.{WireC}
use Rattle.hume_model.specs.declared.core_tree.Core.{Core}
use Rattle.hume_model.specs.Wiring.{comes_from, leads_to}
use Rattle.hume_net.specs.declared.state.State.{State}
use Rattle.hume_net.specs.declared.state.HalfStep.{HalfStep}
use Rattle.hume_net.specs.Lockstep.{lockstep, mid, superstep}
use Rattle.hume_net.specs.Parts.{IsStateOf}
use Rattle.hume_net.specs.Sides.{each_node, left_on, stepped, wire_from, wire_to}
use Rattle.hume_net.proofs.Parts.{same_states}
use Rattle.hume_net.proofs.Starts.{length-numbered}
use Rattle.union_laws.specs.declared.moves.Moves.{Moves}
use Rattle.union_laws.specs.Moving.{moved_function, moved_node, moved_wire}
use Rattle.union_laws.specs.Union.{behind, united}
use Rattle.union_laws.specs.Shares.{left, right}
use Rattle.union_laws.proofs.Positions.{get_back, get_dropped, get_front, get_taken, position_back, position_front, position_mapped}
use Rattle.union_laws.proofs.SharedNets.{IsShare, RunsAlone, StandsIn, lockstep_share}
use Rattle.union_laws.proofs.Unmoved.{function_same, node_same, unmoved, wire_same}

-- a mapped element, which may stand at a place
pub mapped : {X Y : Type 0} (f : X → Y) (xs : List X) (n : ℕ) (x : X) → slice_get xs n ≡ Some x → slice_get (map f xs) n ≡ Some (f x)
mapped f xs n x found = slice_get-map f xs n ∙ ap (option_map f) found

pub was_mapped : {X Y : Type 0} (f : X → Y) (xs : List X) (n : ℕ) (y : Y) → slice_get (map f xs) n ≡ Some y → (x : X) × (slice_get xs n ≡ Some x) × (f x ≡ y)
was_mapped f xs n y found = by (slice_get xs n) refl
  where
    by : (o : Option _) → slice_get xs n ≡ o → (x : _) × (slice_get xs n ≡ Some x) × (f x ≡ y)
    by None at = absurd (let both : None ≡ Some y = ap (option_map f) (sym at) ∙ sym (slice_get-map f xs n) ∙ found in cc)
    by (Some x) at = (x, at, (let both : Some (f x) ≡ Some y = ap (option_map f) (sym at) ∙ sym (slice_get-map f xs n) ∙ found in cc))

-- the element of the first list stays in its place, if nothing becomes of it
pub in_front : {X : Type 0} (f : X → X) (xs ys : List X) (n k : ℕ) (x : X) → k ≡ n → f x ≡ x → slice_get xs n ≡ Some x → slice_get (xs ++ ys) k ≡ Some (f x)
in_front f xs ys n k x at same found = ap (slice_get (xs ++ ys)) at ∙ get_front xs ys n x found ∙ ap Some (sym same)

-- and that of the second one stands behind the first list
pub in_back : {X Y : Type 0} (f : Y → X) (xs : List X) (ys : List Y) (n : ℕ) (y : Y) → slice_get ys n ≡ Some y → slice_get (xs ++ map f ys) (length xs + n) ≡ Some (f y)
in_back f xs ys n y found = get_back xs (map f ys) n ∙ mapped f ys n y found

other_end : (a b : ℕ) (rest : Bool) → a ≢ b → ((a == b) && rest) ≡ false
other_end a b rest other = ap (λ t. t && rest) (ne_eqb a b other)

pub same_end : (k a b : ℕ) → (k + a == k + b) ≡ (a == b)
same_end k a b = elim (cases_eq a b) [
  | inl same ↦ eq-eqb (k + a) (k + b) (ap (λ n. k + n) same) ∙ sym (eq-eqb a b same)
  | inr other ↦ ne_eqb (k + a) (k + b) (λ same. other (omega arith)) ∙ sym (ne_eqb a b other)
]

pub as_found : (o : Option ℕ) → o ≡ option_map (λ w. 0 + w) o
as_found None = refl
as_found (Some w) = (let same : w ≡ 0 + w = omega arith in ap Some same)

module _ (a b : Core) (alone : RunsAlone a) where
  abbrev higher : Moves
  higher = behind a

  abbrev whole : Core
  whole = united a b

  -- no wire of the second program touches a node of the first one
  far_to : (n input : ℕ) → n < length a.nodes → (w : ℕ) (wire : WireC) → slice_get (map (moved_wire higher) b.wires) w ≡ Some wire → leads_to n input wire ≡ false
  far_to n input within w wire found =
      let was = was_mapped (moved_wire higher) b.wires w wire found in
      ap (leads_to n input) (sym was.2) ∙ other_end (length a.nodes + was.0.to) n (was.0.to_port == input) (λ same. omega arith)

  far_from : (n output : ℕ) → n < length a.nodes → (w : ℕ) (wire : WireC) → slice_get (map (moved_wire higher) b.wires) w ≡ Some wire → comes_from n output wire ≡ false
  far_from n output within w wire found =
      let was = was_mapped (moved_wire higher) b.wires w wire found in
      ap (comes_from n output) (sym was.2) ∙ other_end (length a.nodes + was.0.from) n (was.0.from_port == output) (λ same. omega arith)

  pub left_stands : StandsIn unmoved 0 a whole
  left_stands = record {
    funs = λ n function found. in_front (moved_function unmoved) a.funs (map (moved_function higher) b.funs) n (0 + n) function (omega arith) (function_same function) found;
    nodes = λ n node found. in_front (moved_node unmoved) a.nodes (map (moved_node higher) b.nodes) n (0 + n) node (omega arith) (node_same node) found;
    wires = λ w wire found. in_front (moved_wire unmoved) a.wires (map (moved_wire higher) b.wires) w (0 + w) wire (omega arith) (wire_same wire) found;
    into = λ n input within.
        let at : 0 + n ≡ n = omega arith in
        ap (λ k. wire_to whole k input) at ∙ position_front (leads_to n input) a.wires (map (moved_wire higher) b.wires) (far_to n input within) ∙ as_found (wire_to a n input);
    out_of = λ n output within.
        let at : 0 + n ≡ n = omega arith in
        ap (λ k. wire_from whole k output) at ∙ position_front (comes_from n output) a.wires (map (moved_wire higher) b.wires) (far_from n output within)
        ∙ as_found (wire_from a n output);
  }

  -- no wire of the first program touches a node of the second one
  near_to : (n input w : ℕ) (wire : WireC) → slice_get a.wires w ≡ Some wire → leads_to (length a.nodes + n) input wire ≡ false
  near_to n input w wire found =
      let within = (alone.ends w wire found).1 in
      other_end wire.to (length a.nodes + n) (wire.to_port == input) (λ same. omega arith)

  near_from : (n output w : ℕ) (wire : WireC) → slice_get a.wires w ≡ Some wire → comes_from (length a.nodes + n) output wire ≡ false
  near_from n output w wire found =
      let within = (alone.ends w wire found).0 in
      other_end wire.from (length a.nodes + n) (wire.from_port == output) (λ same. omega arith)

  pub right_stands : StandsIn higher (length a.wires) b whole
  right_stands = record {
    funs = λ n function found. in_back (moved_function higher) a.funs b.funs n function found;
    nodes = λ n node found. in_back (moved_node higher) a.nodes b.nodes n node found;
    wires = λ w wire found. in_back (moved_wire higher) a.wires b.wires w wire found;
    into = λ n input within.
        position_back (leads_to (length a.nodes + n) input) a.wires (map (moved_wire higher) b.wires) (near_to n input)
        ∙ ap (option_map (λ w. length a.wires + w))
        (position_mapped (leads_to (length a.nodes + n) input) (moved_wire higher) (leads_to n input)
        (λ wire. ap (λ t. t && (wire.to_port == input)) (same_end (length a.nodes) wire.to n)) b.wires);
    out_of = λ n output within.
        position_back (comes_from (length a.nodes + n) output) a.wires (map (moved_wire higher) b.wires) (near_from n output)
        ∙ ap (option_map (λ w. length a.wires + w))
        (position_mapped (comes_from (length a.nodes + n) output) (moved_wire higher) (comes_from n output)
        (λ wire. ap (λ t. t && (wire.from_port == output)) (same_end (length a.nodes) wire.from n)) b.wires);
  }

-- shares

pub left_share : (a : Core) (s : State) → IsShare unmoved 0 a s (left a s)
left_share a s = record {
  parts = λ n within. λ i. record {
    pending = option_flatten (at s.pending n within i);
    order = unwrap_or (at s.orders n within i) [];
    coming = unwrap_or (at s.coming n within i) [];
    taken = unwrap_or (at s.taken n within i) [];
  };
  wires = λ w within. ap (λ o. unwrap_or o []) (in_wires s.wires w within);
}
  where
    at : {X : Type 0} (xs : List X) (n : ℕ) → n < length a.nodes → slice_get xs (0 + n) ≡ slice_get (take (length a.nodes) xs) n
    at xs n within = (let same : 0 + n ≡ n = omega arith in ap (slice_get xs) same) ∙ sym (get_taken (length a.nodes) xs n within)

    in_wires : {X : Type 0} (xs : List X) (w : ℕ) → w < length a.wires → slice_get xs (0 + w) ≡ slice_get (take (length a.wires) xs) w
    in_wires xs w within = (let same : 0 + w ≡ w = omega arith in ap (slice_get xs) same) ∙ sym (get_taken (length a.wires) xs w within)

pub right_share : (a b : Core) (s : State) → IsShare (behind a) (length a.wires) b s (right a s)
right_share a b s = record {
  parts = λ n within. λ i. record {
    pending = option_flatten (sym (get_dropped (length a.nodes) s.pending n) i);
    order = unwrap_or (sym (get_dropped (length a.nodes) s.orders n) i) [];
    coming = unwrap_or (sym (get_dropped (length a.nodes) s.coming n) i) [];
    taken = unwrap_or (sym (get_dropped (length a.nodes) s.taken n) i) [];
  };
  wires = λ w within. ap (λ o. unwrap_or o []) (sym (get_dropped (length a.wires) s.wires w));
}

-- places

gathered_length : {X : Type 0} (core : Core) (says : ℕ → HalfStep) (f : HalfStep → X) → length (map f (each_node core says)) ≡ length core.nodes
gathered_length core says f = length-map (each_node core says) f ∙ length-numbered (length core.nodes) says

pub superstep_state : (core : Core) (s : State) → IsStateOf core (superstep core s)
unfolding superstep
superstep_state core s = record {
  wires = length-map core.wires (λ (wire : WireC). left_on (each_node core (stepped core (mid core s))) wire.from wire.from_port);
  pending = gathered_length core (stepped core (mid core s)) (λ (half : HalfStep). half.part.pending);
  orders = gathered_length core (stepped core (mid core s)) (λ (half : HalfStep). half.part.order);
  coming = gathered_length core (stepped core (mid core s)) (λ (half : HalfStep). half.part.coming);
  taken = gathered_length core (stepped core (mid core s)) (λ (half : HalfStep). half.part.taken);
}

module _ (a b : Core) where
  pub all_nodes : length (united a b).nodes ≡ length a.nodes + length b.nodes
  all_nodes = length-append a.nodes (map (moved_node (behind a)) b.nodes) ∙ ap (λ n. length a.nodes + n) (length-map b.nodes (moved_node (behind a)))

  pub all_wires : length (united a b).wires ≡ length a.wires + length b.wires
  all_wires = length-append a.wires (map (moved_wire (behind a)) b.wires) ∙ ap (λ n. length a.wires + n) (length-map b.wires (moved_wire (behind a)))

module _ (a b : Core) (s : State) (places : IsStateOf (united a b) s) where
  few : {X : Type 0} (m n : ℕ) (xs : List X) → length xs ≡ m + n → length (take m xs) ≡ m
  few m n xs long = let is = length-take m xs in omega (arith, is, long)

  rest : {X : Type 0} (m n : ℕ) (xs : List X) → length xs ≡ m + n → length (drop m xs) ≡ n
  rest m n xs long = let is = length-drop m xs in omega (arith, is, long)

  pub left_state : IsStateOf a (left a s)
  left_state = record {
    wires = few (length a.wires) (length b.wires) s.wires (places.wires ∙ all_wires a b);
    pending = few (length a.nodes) (length b.nodes) s.pending (places.pending ∙ all_nodes a b);
    orders = few (length a.nodes) (length b.nodes) s.orders (places.orders ∙ all_nodes a b);
    coming = few (length a.nodes) (length b.nodes) s.coming (places.coming ∙ all_nodes a b);
    taken = few (length a.nodes) (length b.nodes) s.taken (places.taken ∙ all_nodes a b);
  }

  pub right_state : IsStateOf b (right a s)
  right_state = record {
    wires = rest (length a.wires) (length b.wires) s.wires (places.wires ∙ all_wires a b);
    pending = rest (length a.nodes) (length b.nodes) s.pending (places.pending ∙ all_nodes a b);
    orders = rest (length a.nodes) (length b.nodes) s.orders (places.orders ∙ all_nodes a b);
    coming = rest (length a.nodes) (length b.nodes) s.coming (places.coming ∙ all_nodes a b);
    taken = rest (length a.nodes) (length b.nodes) s.taken (places.taken ∙ all_nodes a b);
  }

-- two states with the same share are the same
pub one_share : (moves : Moves) (first : ℕ) (core : Core) (s t u : State) → IsShare moves first core s t → IsShare moves first core s u
    → IsStateOf core t → IsStateOf core u → t ≡ u
one_share moves first core s t u one other t_is u_is =
    same_states core t u t_is u_is (λ n within. sym (one.parts n within) ∙ other.parts n within) (λ w within. sym (one.wires w within) ∙ other.wires w within)

module _ (a b : Core) (s : State) where
  pub left_alone : RunsAlone a → (k : ℕ) → left a (lockstep (united a b) s k) ≡ lockstep a (left a s) k
  unfolding lockstep
  left_alone alone zero = refl
  left_alone alone (suc k) =
      one_share unmoved 0 a (lockstep (united a b) s (suc k)) (left a (lockstep (united a b) s (suc k))) (lockstep a (left a s) (suc k))
      (left_share a (lockstep (united a b) s (suc k)))
      (lockstep_share unmoved 0 a (united a b) alone (left_stands a b alone) s (left a s) (left_share a s) (suc k))
      (left_state a b (lockstep (united a b) s (suc k)) (superstep_state (united a b) (lockstep (united a b) s k)))
      (superstep_state a (lockstep a (left a s) k))

  pub right_alone : RunsAlone a → RunsAlone b → (k : ℕ) → right a (lockstep (united a b) s k) ≡ lockstep b (right a s) k
  unfolding lockstep
  right_alone first alone zero = refl
  right_alone first alone (suc k) =
      one_share (behind a) (length a.wires) b (lockstep (united a b) s (suc k)) (right a (lockstep (united a b) s (suc k))) (lockstep b (right a s) (suc k))
      (right_share a b (lockstep (united a b) s (suc k)))
      (lockstep_share (behind a) (length a.wires) b (united a b) alone (right_stands a b first) s (right a s) (right_share a b s) (suc k))
      (right_state a b (lockstep (united a b) s (suc k)) (superstep_state (united a b) (lockstep (united a b) s k)))
      (superstep_state b (lockstep b (right a s) k))
