-- Values to come are asserted one a superstep at most, and those that are ahead of these are not seen.
use Rattle.std.proofs.Common.{◌≡◌, ℕ, ◌+◌, ◌≤◌, List, [], ◌++◌, take, drop, length, Some, slice_get, refl, ap, sym, ◌∙◌, subst, ◌⊎◌, arith}
use Rattle.std.proofs.lemmas.List.{append_assoc, take-append-drop}
use Rattle.std.proofs.lemmas.Option.{slice_get_within}
use Rattle.std.specs.Option.{option_flatten, unwrap_or}
use Rattle.hume_base.specs.declared.types.Value.{Value}
use Rattle.hume_model.specs.declared.core_tree.NodeC.{NodeC}
use Rattle.hume_model.specs.declared.core_tree.Core.{Core}
use Rattle.hume_net.specs.declared.state.Part.{Part}
use Rattle.hume_net.specs.declared.state.State.{State}
use Rattle.hume_net.specs.Sides.{each_node, part_of}
use Rattle.hume_net.specs.Lockstep.{lockstep}
use Rattle.hume_net.proofs.Ahead.{Alike, lockstep_alike}
use Rattle.hume_net.proofs.Gathered.{numbered_get}
use Rattle.hume_net.specs.rounds.Streams.{asserted_between, AlikeUpTo}
use Rattle.hume_net.specs.rounds.Pieces.{nothing, IsPieceOf, IsFilled}
use Rattle.hume_net.proofs.rounds_lemmas.PieceSteps.{is_node, lockstep_piece}
use Rattle.hume_net.proofs.rounds_lemmas.Streaming.{Drops, lockstep_drops}
use Rattle.hume_net.proofs.rounds_lemmas.Values.{first_gone, none_or_enough}

module _ (core : Core) (s : State) (k n : ℕ) (node : NodeC) (is : slice_get core.nodes n ≡ Some node) where
  drops : Drops k (part_of s n).coming (part_of (lockstep core s k) n).coming
  drops = lockstep_drops core s k n node is

  asserted_gone : asserted_between s (lockstep core s k) n ≡ drops.gone
  asserted_gone = first_gone drops.gone (part_of (lockstep core s k) n).coming (part_of s n).coming drops.all

  pub all_asserted : (part_of s n).coming ≡ asserted_between s (lockstep core s k) n ++ (part_of (lockstep core s k) n).coming
  all_asserted = drops.all ∙ ap (λ gone. gone ++ (part_of (lockstep core s k) n).coming) (sym asserted_gone)

  pub few_asserted : length (asserted_between s (lockstep core s k) n) ≤ k
  few_asserted = (let same = ap length asserted_gone in omega (arith, same, drops.few))

pub lockstep_alike_up_to : (core : Core) (count more : ℕ) (s t : State) → AlikeUpTo (count + more) s t
    → AlikeUpTo more (lockstep core s count) (lockstep core t count)
lockstep_alike_up_to core count more s t a =
    let alike : Alike (count + more) s t = record { wires = a.wires; pending = a.pending; orders = a.orders; taken = a.taken; coming = a.coming } in
    let after = lockstep_alike more count core s t alike in
    record { wires = after.wires; pending = after.pending; orders = after.orders; taken = after.taken; coming = after.coming }

-- the state to whose nodes only the first values come
module _ (core : Core) (count : ℕ) where
  abbrev ahead : State → ℕ → List Value
  ahead s n = drop count (part_of s n).coming

  abbrev first_of : State → State
  first_of s = record s { coming = each_node core (λ n. take count (part_of s n).coming) }

  first_coming : (s : State) (n : ℕ) (node : NodeC) → slice_get core.nodes n ≡ Some node → (part_of (first_of s) n).coming ≡ take count (part_of s n).coming
  first_coming s n node is =
      ap (λ o. unwrap_or o []) (numbered_get (length core.nodes) (λ n. take count (part_of s n).coming) n (slice_get_within core.nodes n node is))

  first_filled : (s t : State) → AlikeUpTo count s t → IsFilled core count (ahead t) (first_of s)
  first_filled s t a n input =
      let node = is_node _ input in
      let same = first_coming s n node.0 node.1 ∙ sym (a.coming n) in
      subst (λ coming. (ahead t n ≡ []) ⊎ (count ≤ length coming)) (sym same) (none_or_enough count (part_of t n).coming)

  first_piece : (s t : State) → AlikeUpTo count s t → IsPieceOf core nothing (ahead t) (first_of s) t
  first_piece s t a = record {
    wires = λ w wire found. ap (λ wires. unwrap_or (slice_get wires w) []) a.wires;
    parts = λ n node is i. record {
      pending = option_flatten (slice_get (a.pending i) n);
      order = unwrap_or (slice_get (a.orders i) n) [];
      coming = (sym (take-append-drop count (part_of t n).coming) ∙ ap (λ front. front ++ ahead t n) (a.coming n ∙ sym (first_coming s n node is))) i;
      taken = unwrap_or (slice_get (a.taken i) n) [];
    };
  }

  alike_itself : (s : State) → AlikeUpTo count s s
  alike_itself s = record { wires = refl; pending = refl; orders = refl; taken = refl; coming = λ n. refl }

  module _ (s : State) (n : ℕ) (node : NodeC) (is : slice_get core.nodes n ≡ Some node) where
    of_first : Drops count (part_of (first_of s) n).coming (part_of (lockstep core (first_of s) count) n).coming
    of_first = lockstep_drops core (first_of s) count n node is

    -- what is asserted is what is asserted of the first values
    asserted_of_first : (t : State) → AlikeUpTo count s t → asserted_between t (lockstep core t count) n ≡ of_first.gone
    asserted_of_first t a =
        let later = lockstep_piece core nothing (ahead t) count (first_of s) t (first_filled s t a) (first_piece s t a) in
        let before = ap (λ (p : Part). p.coming) ((first_piece s t a).parts n node is) in
        let after = ap (λ (p : Part). p.coming) (later.parts n node is) in
        let left = (part_of (lockstep core (first_of s) count) n).coming in
        first_gone of_first.gone (part_of (lockstep core t count) n).coming (part_of t n).coming
        (before ∙ ap (λ coming. coming ++ ahead t n) of_first.all ∙ append_assoc of_first.gone left (ahead t n)
        ∙ ap (λ coming. of_first.gone ++ coming) (sym after))

  pub same_asserted : (s t : State) → AlikeUpTo count s t → (n : ℕ) (node : NodeC) → slice_get core.nodes n ≡ Some node
      → asserted_between s (lockstep core s count) n ≡ asserted_between t (lockstep core t count) n
  same_asserted s t a n node is = asserted_of_first s n node is s (alike_itself s) ∙ sym (asserted_of_first s n node is t a)
