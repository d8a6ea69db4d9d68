-- A state that is made of parts and wires has them, and each state of a core is made of its own.
use Rattle.std.proofs.Common.{◌≡◌, ℕ, zero, suc, ◌+◌, ◌<◌, List, [], ◌∷◌, map, length, Some, slice_get, refl, ap, sym, ◌∙◌, arith}
use Rattle.std.specs.List.{range_with_len}
use Rattle.std.specs.Option.{option_flatten, unwrap_or}
use Rattle.hume_base.specs.declared.types.Value.{Value}
use Rattle.hume_model.specs.declared.core_tree.Core.{Core}
use Rattle.hume_net.specs.declared.state.Part.{Part}
use Rattle.hume_net.specs.declared.state.State.{State}
use Rattle.hume_net.specs.Parts.{state_of, IsStateOf}
use Rattle.hume_net.specs.Sides.{numbered, on_wire, part_of}
use Rattle.hume_net.proofs.Gathered.{numbered_get}
use Rattle.hume_net.proofs.Starts.{length-numbered}

-- lists of what is said of numbers

same_from : {X : Type 0} (f g : ℕ → X) (first count : ℕ) → ((i : ℕ) → i < first + count → f i ≡ g i)
    → map f (range_with_len first count) ≡ map g (range_with_len first count)
same_from f g first zero same = refl
same_from f g first (suc count) same =
    ap (λ x. x ∷ map f (range_with_len (first + 1) count)) (same first (omega arith))
    ∙ ap (λ xs. g first ∷ xs) (same_from f g (first + 1) count (λ i less. same i (omega arith)))

-- what is said of the numbers below a bound depends on nothing else
pub same_numbered : {X : Type 0} (bound : ℕ) (f g : ℕ → X) → ((i : ℕ) → i < bound → f i ≡ g i) → numbered bound f ≡ numbered bound g
same_numbered bound f g same = same_from f g 0 bound (λ i less. same i (omega arith))

list_from : {X : Type 0} (f : ℕ → X) (first : ℕ) (xs : List X) → ((i : ℕ) (x : X) → slice_get xs i ≡ Some x → f (first + i) ≡ x)
    → map f (range_with_len first (length xs)) ≡ xs
list_from f first [] says = refl
list_from f first (x ∷ xs) says =
    let here : f first ≡ x = (let at : first + 0 ≡ first = omega arith in ap f (sym at) ∙ says 0 x refl) in
    let rest : map f (range_with_len (first + 1) (length xs)) ≡ xs =
    list_from f (first + 1) xs (λ i y is. (let at : first + 1 + i ≡ first + suc i = omega arith in ap f at ∙ says (suc i) y is)) in
    ap (λ y. y ∷ map f (range_with_len (first + 1) (length xs))) here ∙ ap (λ ys. x ∷ ys) rest

-- a list is what it has at each place
pub own_list : {X : Type 0} (bound : ℕ) (f : ℕ → X) (xs : List X) → length xs ≡ bound
    → ((i : ℕ) (x : X) → slice_get xs i ≡ Some x → f i ≡ x) → numbered bound f ≡ xs
own_list bound f xs long says =
    ap (λ count. numbered count f) (sym long) ∙ list_from f 0 xs (λ i x is. (let at : 0 + i ≡ i = omega arith in ap f at ∙ says i x is))

-- states

module _ (core : Core) (part : ℕ → Part) (values : ℕ → List Value) where
  pub made_state : IsStateOf core (state_of core part values)
  made_state = record {
    wires = length-numbered (length core.wires) values;
    pending = length-numbered (length core.nodes) (λ n. (part n).pending);
    orders = length-numbered (length core.nodes) (λ n. (part n).order);
    coming = length-numbered (length core.nodes) (λ n. (part n).coming);
    taken = length-numbered (length core.nodes) (λ n. (part n).taken);
  }

  pub made_part : (n : ℕ) → n < length core.nodes → part_of (state_of core part values) n ≡ part n
  made_part n less = λ i. record {
    pending = option_flatten (numbered_get (length core.nodes) (λ m. (part m).pending) n less i);
    order = unwrap_or (numbered_get (length core.nodes) (λ m. (part m).order) n less i) [];
    coming = unwrap_or (numbered_get (length core.nodes) (λ m. (part m).coming) n less i) [];
    taken = unwrap_or (numbered_get (length core.nodes) (λ m. (part m).taken) n less i) [];
  }

  pub made_wire : (w : ℕ) → w < length core.wires → on_wire (state_of core part values) w ≡ values w
  made_wire w less = ap (λ o. unwrap_or o []) (numbered_get (length core.wires) values w less)

module _ (core : Core) where
  pub own_state : (s : State) → IsStateOf core s → state_of core (part_of s) (on_wire s) ≡ s
  own_state s is =
      let nodes : ℕ = length core.nodes in
      let wires = own_list (length core.wires) (on_wire s) s.wires is.wires (λ w x at. ap (λ o. unwrap_or o []) at) in
      let pending = own_list nodes (λ n. (part_of s n).pending) s.pending is.pending (λ n x at. ap option_flatten at) in
      let orders = own_list nodes (λ n. (part_of s n).order) s.orders is.orders (λ n x at. ap (λ o. unwrap_or o []) at) in
      let coming = own_list nodes (λ n. (part_of s n).coming) s.coming is.coming (λ n x at. ap (λ o. unwrap_or o []) at) in
      let taken = own_list nodes (λ n. (part_of s n).taken) s.taken is.taken (λ n x at. ap (λ o. unwrap_or o []) at) in
      λ i. record { wires = wires i; pending = pending i; orders = orders i; coming = coming i; taken = taken i }

  -- what is made of the same parts and wires is the same
  pub same_made : (part part' : ℕ → Part) (values values' : ℕ → List Value) → ((n : ℕ) → n < length core.nodes → part n ≡ part' n)
      → ((w : ℕ) → w < length core.wires → values w ≡ values' w) → state_of core part values ≡ state_of core part' values'
  same_made part part' values values' parts wires =
      let nodes : ℕ = length core.nodes in
      let on_wires = same_numbered (length core.wires) values values' wires in
      let pending = same_numbered nodes (λ n. (part n).pending) (λ n. (part' n).pending) (λ n less. ap (λ (p : Part). p.pending) (parts n less)) in
      let orders = same_numbered nodes (λ n. (part n).order) (λ n. (part' n).order) (λ n less. ap (λ (p : Part). p.order) (parts n less)) in
      let coming = same_numbered nodes (λ n. (part n).coming) (λ n. (part' n).coming) (λ n less. ap (λ (p : Part). p.coming) (parts n less)) in
      let taken = same_numbered nodes (λ n. (part n).taken) (λ n. (part' n).taken) (λ n less. ap (λ (p : Part). p.taken) (parts n less)) in
      λ i. record { wires = on_wires i; pending = pending i; orders = orders i; coming = coming i; taken = taken i }

  -- states with the same parts and wires are the same
  pub same_states : (s t : State) → IsStateOf core s → IsStateOf core t → ((n : ℕ) → n < length core.nodes → part_of s n ≡ part_of t n)
      → ((w : ℕ) → w < length core.wires → on_wire s w ≡ on_wire t w) → s ≡ t
  same_states s t is its parts wires =
      sym (own_state s is) ∙ same_made (part_of s) (part_of t) (on_wire s) (on_wire t) parts wires ∙ own_state t its
