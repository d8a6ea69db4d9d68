-- So many supersteps of a whole state are those of its piece.
use Rattle.std.proofs.Common.{◌≡◌, ℕ, zero, suc, ◌+◌, ◌≤◌, List, [], length, Option, Some, None, slice_get, refl, ap, ◌∙◌, subst, inl, inr, ◌⊎◌, arith, length-append}
use Rattle.hume_base.specs.declared.types.Value.{Value}
use Rattle.hume_model.specs.declared.core_tree.NodeC.{NodeC}
use Rattle.hume_model.specs.declared.core_tree.Core.{Core}
use Rattle.hume_net.specs.declared.state.State.{State}
use Rattle.hume_net.specs.Sides.{part_of}
use Rattle.hume_net.specs.Lockstep.{mid, superstep, lockstep}
use Rattle.hume_net.specs.Nodes.{IsInput, IsInputStream}
use Rattle.hume_net.specs.rounds.Pieces.{IsPieceOf, IsFilled}
use Rattle.hume_net.proofs.rounds_lemmas.Completing.{mid_piece, up_piece}
use Rattle.hume_net.proofs.rounds_lemmas.Streaming.{lockstep_drops, mid_coming}

-- an input stream is a node
pub is_node : (o : Option NodeC) → IsInput o → (node : NodeC) × (o ≡ Some node)
is_node None input = absurd input
is_node (Some node) input = (node, refl)

module _ (core : Core) (earlier later : ℕ → List Value) where
  -- what is enough for more supersteps is enough for the last, after the others
  enough_left : (k more n : ℕ) (s : State) → IsInputStream core n → (later n ≡ []) ⊎ (k + more ≤ length (part_of s n).coming)
      → (later n ≡ []) ⊎ (more ≤ length (part_of (lockstep core s k) n).coming)
  enough_left k more n s input (inl none) = inl none
  enough_left k more n s input (inr many) =
      let node = is_node _ input in
      let drops = lockstep_drops core s k n node.0 node.1 in
      let lengths = ap length drops.all ∙ length-append drops.gone (part_of (lockstep core s k) n).coming in
      inr (omega (arith, lengths, drops.few, many))

  pub filled_left : (k more : ℕ) (s : State) → IsFilled core (k + more) later s → IsFilled core more later (lockstep core s k)
  filled_left k more s filled n input = enough_left k more n s input (filled n input)

  fewer : (k more n : ℕ) (s : State) → (later n ≡ []) ⊎ (k + more ≤ length (part_of s n).coming) → (later n ≡ []) ⊎ (k ≤ length (part_of s n).coming)
  fewer k more n s (inl none) = inl none
  fewer k more n s (inr many) = inr (omega (arith, many))

  pub filled_less : (k more : ℕ) (s : State) → IsFilled core (k + more) later s → IsFilled core k later s
  filled_less k more s filled n input = fewer k more n s (filled n input)

  mid_enough : (n : ℕ) (s : State) (node : NodeC) → slice_get core.nodes n ≡ Some node → (later n ≡ []) ⊎ (1 ≤ length (part_of s n).coming)
      → (later n ≡ []) ⊎ (1 ≤ length (part_of (mid core s) n).coming)
  mid_enough n s node is (inl none) = inl none
  mid_enough n s node is (inr some) = inr (let e = ap length (mid_coming core s n node is) in omega (arith, e, some))

  mid_filled : (s : State) → IsFilled core 1 later s → IsFilled core 1 later (mid core s)
  mid_filled s filled n input = let node = is_node _ input in mid_enough n s node.0 node.1 (filled n input)

  superstep_piece : (s t : State) → IsFilled core 1 later s → IsPieceOf core earlier later s t
      → IsPieceOf core earlier later (superstep core s) (superstep core t)
  unfolding superstep
  superstep_piece s t filled piece =
      up_piece core earlier later (mid core s) (mid core t) (mid_piece core earlier later s t piece) (mid_filled s filled)

  pub lockstep_piece : (k : ℕ) (s t : State) → IsFilled core k later s → IsPieceOf core earlier later s t
      → IsPieceOf core earlier later (lockstep core s k) (lockstep core t k)
  unfolding lockstep
  lockstep_piece zero s t filled piece = piece
  lockstep_piece (suc k) s t filled piece =
      let e : suc k ≡ k + 1 = omega arith in
      let all : IsFilled core (k + 1) later s = subst (λ count. IsFilled core count later s) e filled in
      superstep_piece (lockstep core s k) (lockstep core t k) (filled_left k 1 s all) (lockstep_piece k s t (filled_less k 1 s all) piece)
