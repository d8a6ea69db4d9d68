-- Each program of a list runs in the union of all as it runs alone.
use Rattle.std.proofs.Common.{◌≡◌, ℕ, zero, suc, ◌+◌, List, [], ◌∷◌, length, take, drop, Some, slice_get, refl, ap, sym, ◌∙◌, subst, arith}
use Rattle.std.specs.List.{All}
use Rattle.std.proofs.lemmas.List.{drop-take}
use Rattle.std.proofs.lemmas.List.Elements.{All-head, All-tail}
use Rattle.hume_model.specs.declared.core_tree.Core.{Core}
use Rattle.hume_net.specs.declared.state.State.{State}
use Rattle.hume_net.specs.Lockstep.{lockstep}
use Rattle.hume_net.specs.Sides.{wire_from, wire_to}
use Rattle.union_laws.specs.Moving.{moved_function, moved_node, moved_wire}
use Rattle.union_laws.specs.Union.{followed_by, no_program, united, united_all}
use Rattle.union_laws.specs.Shares.{left, right, share}
use Rattle.union_laws.proofs.AloneInUnions.{union_alone}
use Rattle.union_laws.proofs.SharedNets.{IsShare, RunsAlone, StandsIn, lockstep_share}
use Rattle.union_laws.proofs.Unions.{all_nodes, all_wires, as_found, left_alone, left_share, one_share, right_alone, superstep_state}
use Rattle.union_laws.proofs.Unmoved.{function_same, node_same, unmoved, wire_same}

pub none_alone : RunsAlone no_program
none_alone = record {
  calls = λ number function found. cc;
  boxes = λ n b found. cc;
  ends = λ w wire found. cc;
}

pub all_alone : (core : Core) (others : List Core) → RunsAlone core → All RunsAlone others → RunsAlone (followed_by core others)
all_alone core [] alone each = alone
all_alone core (next ∷ others) alone each =
    all_alone (united core next) others (union_alone core next alone (All-head RunsAlone next others each)) (All-tail RunsAlone next others each)

-- a program is its own share of what goes on behind it

self_at : {X : Type 0} (f : X → X) (xs : List X) (n k : ℕ) (x : X) → k ≡ n → f x ≡ x → slice_get xs n ≡ Some x → slice_get xs k ≡ Some (f x)
self_at f xs n k x at same found = ap (slice_get xs) at ∙ found ∙ ap Some (sym same)

pub self_stands : (core : Core) → StandsIn unmoved 0 core core
self_stands core = record {
  funs = λ n function found. self_at (moved_function unmoved) core.funs n (0 + n) function (omega arith) (function_same function) found;
  nodes = λ n node found. self_at (moved_node unmoved) core.nodes n (0 + n) node (omega arith) (node_same node) found;
  wires = λ w wire found. self_at (moved_wire unmoved) core.wires w (0 + w) wire (omega arith) (wire_same wire) found;
  into = λ n input within. (let at : 0 + n ≡ n = omega arith in ap (λ k. wire_to core k input) at ∙ as_found (wire_to core n input));
  out_of = λ n output within. (let at : 0 + n ≡ n = omega arith in ap (λ k. wire_from core k output) at ∙ as_found (wire_from core n output));
}

pub take_all : {X : Type 0} (n : ℕ) (xs : List X) → length xs ≡ n → take n xs ≡ xs
take_all zero [] long = refl
take_all zero (x ∷ xs) long = absurd (omega arith)
take_all (suc n) [] long = refl
take_all (suc n) (x ∷ xs) long = ap (λ ys. x ∷ ys) (take_all n xs (omega arith))

own_share : (core : Core) (s : State) → RunsAlone core → (k : ℕ) → left core (lockstep core s k) ≡ lockstep core (left core s) k
unfolding lockstep
own_share core s alone zero = refl
own_share core s alone (suc k) =
    let after : State = lockstep core s (suc k) in
    let places = superstep_state core (lockstep core s k) in
    let whole : left core after ≡ after = (λ i. record {
      wires = take_all (length core.wires) after.wires places.wires i;
      pending = take_all (length core.nodes) after.pending places.pending i;
      orders = take_all (length core.nodes) after.orders places.orders i;
      coming = take_all (length core.nodes) after.coming places.coming i;
      taken = take_all (length core.nodes) after.taken places.taken i;
    }) in
    whole
    ∙ one_share unmoved 0 core after after (lockstep core (left core s) (suc k))
    (subst (IsShare unmoved 0 core after) whole (left_share core after))
    (lockstep_share unmoved 0 core core alone (self_stands core) s (left core s) (left_share core s) (suc k))
    places (superstep_state core (lockstep core (left core s) k))

pub take_less : {X : Type 0} (m n k : ℕ) (xs : List X) → k ≡ m + n → take m (take k xs) ≡ take m xs
take_less zero n k xs at = refl
take_less (suc m) n zero xs at = absurd (omega arith)
take_less (suc m) n (suc k) [] at = refl
take_less (suc m) n (suc k) (x ∷ xs) at = ap (λ ys. x ∷ ys) (take_less m n k xs (omega arith))

pub take_rest : {X : Type 0} (m n k : ℕ) (xs : List X) → k ≡ m + n → drop m (take k xs) ≡ take n (drop m xs)
take_rest m n k xs at = ap (λ j. drop m (take j xs)) at ∙ drop-take m n xs

module _ (a b : Core) (s : State) where
  many_nodes : length (united a b).nodes ≡ length a.nodes + length b.nodes
  many_nodes = all_nodes a b

  many_wires : length (united a b).wires ≡ length a.wires + length b.wires
  many_wires = all_wires a b

  -- the first program's share of the share of both
  pub left_left : left a (left (united a b) s) ≡ left a s
  left_left = λ i. record {
    wires = take_less (length a.wires) (length b.wires) (length (united a b).wires) s.wires many_wires i;
    pending = take_less (length a.nodes) (length b.nodes) (length (united a b).nodes) s.pending many_nodes i;
    orders = take_less (length a.nodes) (length b.nodes) (length (united a b).nodes) s.orders many_nodes i;
    coming = take_less (length a.nodes) (length b.nodes) (length (united a b).nodes) s.coming many_nodes i;
    taken = take_less (length a.nodes) (length b.nodes) (length (united a b).nodes) s.taken many_nodes i;
  }

  -- and the second one's
  pub right_left : right a (left (united a b) s) ≡ left b (right a s)
  right_left = λ i. record {
    wires = take_rest (length a.wires) (length b.wires) (length (united a b).wires) s.wires many_wires i;
    pending = take_rest (length a.nodes) (length b.nodes) (length (united a b).nodes) s.pending many_nodes i;
    orders = take_rest (length a.nodes) (length b.nodes) (length (united a b).nodes) s.orders many_nodes i;
    coming = take_rest (length a.nodes) (length b.nodes) (length (united a b).nodes) s.coming many_nodes i;
    taken = take_rest (length a.nodes) (length b.nodes) (length (united a b).nodes) s.taken many_nodes i;
  }

-- whatever follows a program, it runs as alone
first_alone : (core : Core) (others : List Core) → RunsAlone core → All RunsAlone others → (s : State) (k : ℕ)
    → left core (lockstep (followed_by core others) s k) ≡ lockstep core (left core s) k
first_alone core [] alone each s k = own_share core s alone k
first_alone core (next ∷ others) alone each s k =
    let both : Core = united core next in
    let others_alone = first_alone both others (union_alone core next alone (All-head RunsAlone next others each)) (All-tail RunsAlone next others each) s k in
    sym (left_left core next (lockstep (followed_by both others) s k))
    ∙ ap (left core) others_alone
    ∙ left_alone core next (left both s) alone k
    ∙ ap (λ t. lockstep core t k) (left_left core next s)

-- the programs before a place, the one there, and those behind
pub record IsAmong (core : Core) (programs : List Core) (place : ℕ) (program : Core) : Type 0 where
  pub later : List Core
  pub later_alone : All RunsAlone later
  pub before_alone : RunsAlone (followed_by core (take place programs))
  pub alone : RunsAlone program
  pub whole : followed_by core programs ≡ followed_by (united (followed_by core (take place programs)) program) later

pub among : (core : Core) (programs : List Core) (place : ℕ) (program : Core) → RunsAlone core → All RunsAlone programs → slice_get programs place ≡ Some program
    → IsAmong core programs place program
among core [] place program first each found = cc
among core (x ∷ xs) zero program first each found =
    let same : x ≡ program = cc in
    record {
      later = xs;
      later_alone = All-tail RunsAlone x xs each;
      before_alone = first;
      alone = subst RunsAlone same (All-head RunsAlone x xs each);
      whole = ap (λ p. followed_by (united core p) xs) same;
    }
among core (x ∷ xs) (suc place) program first each found =
    let rest = among (united core x) xs place program (union_alone core x first (All-head RunsAlone x xs each)) (All-tail RunsAlone x xs each) found in
    record { later = rest.later; later_alone = rest.later_alone; before_alone = rest.before_alone; alone = rest.alone; whole = rest.whole }

pub share_alone : (programs : List Core) → All RunsAlone programs → (place : ℕ) (program : Core) → slice_get programs place ≡ Some program → (s : State) (k : ℕ)
    → share programs place program (lockstep (united_all programs) s k) ≡ lockstep program (share programs place program s) k
share_alone programs each place program found s k =
    let at = among no_program programs place program none_alone each found in
    let before : Core = united_all (take place programs) in
    let both : Core = united before program in
    ap (λ core. left program (right before (lockstep core s k))) at.whole
    ∙ sym (right_left before program (lockstep (followed_by both at.later) s k))
    ∙ ap (right before) (first_alone both at.later (union_alone before program at.before_alone at.alone) at.later_alone s k)
    ∙ right_alone before program (left both s) at.before_alone at.alone k
    ∙ ap (λ t. lockstep program t k) (right_left before program s)
