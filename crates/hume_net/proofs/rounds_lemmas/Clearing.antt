-- Taken values are put behind those that were taken earlier.
use Rattle.std.proofs.Common.{◌≡◌, ℕ, [], ◌++◌, drop, length, Some, slice_get, refl, ap, sym, ◌∙◌, inl}
use Rattle.std.proofs.lemmas.List.{append-nil}
use Rattle.std.proofs.Math.Seq.{drop-append_seam}
use Rattle.std.proofs.lemmas.Option.{slice_get_within}
use Rattle.std.specs.Option.{unwrap_or}
use Rattle.hume_model.specs.declared.core_tree.NodeC.{NodeC}
use Rattle.hume_model.specs.declared.core_tree.Core.{Core}
use Rattle.hume_net.specs.declared.state.Part.{Part}
use Rattle.hume_net.specs.declared.state.State.{State}
use Rattle.hume_net.specs.Sides.{part_of}
use Rattle.hume_net.specs.Start.{no_values}
use Rattle.hume_net.specs.Lockstep.{lockstep}
use Rattle.hume_net.proofs.Gathered.{numbered_get}
use Rattle.hume_net.specs.rounds.Streams.{gained}
use Rattle.hume_net.specs.rounds.Pieces.{nothing, IsPieceOf, cleared, taken_in}
use Rattle.hume_net.proofs.rounds_lemmas.PieceSteps.{lockstep_piece}

pub none_at : (core : Core) (n : ℕ) (node : NodeC) → slice_get core.nodes n ≡ Some node → unwrap_or (slice_get (no_values core) n) [] ≡ []
none_at core n node is = ap (λ o. unwrap_or o []) (numbered_get (length core.nodes) (λ node. []) n (slice_get_within core.nodes n node is))

-- a state is its cleared piece with what was taken
pub cleared_piece : (core : Core) (s : State) → IsPieceOf core (taken_in s) nothing (cleared core s) s
cleared_piece core s = record {
  wires = λ w wire found. refl;
  parts = λ n node is i. record {
    pending = (part_of s n).pending;
    order = (part_of s n).order;
    coming = sym (append-nil (part_of s n).coming) i;
    taken = (sym (append-nil (part_of s n).taken) ∙ ap (λ none. (part_of s n).taken ++ none) (sym (none_at core n node is))) i;
  };
}

pub lockstep_cleared : (core : Core) (s : State) (k : ℕ) → IsPieceOf core (taken_in s) nothing (lockstep core (cleared core s) k) (lockstep core s k)
lockstep_cleared core s k = lockstep_piece core (taken_in s) nothing k (cleared core s) s (λ n input. inl refl) (cleared_piece core s)

module _ (core : Core) (s : State) (k n : ℕ) (node : NodeC) (is : slice_get core.nodes n ≡ Some node) where
  taken_after : (part_of (lockstep core s k) n).taken ≡ (part_of s n).taken ++ (part_of (lockstep core (cleared core s) k) n).taken
  taken_after = ap (λ (p : Part). p.taken) ((lockstep_cleared core s k).parts n node is)

  pub gained_cleared : gained s (lockstep core s k) n ≡ (part_of (lockstep core (cleared core s) k) n).taken
  gained_cleared =
      ap (drop (length (part_of s n).taken)) taken_after
      ∙ drop-append_seam (part_of s n).taken (part_of (lockstep core (cleared core s) k) n).taken

  pub taken_grows : (part_of (lockstep core s k) n).taken ≡ (part_of s n).taken ++ gained s (lockstep core s k) n
  taken_grows = taken_after ∙ ap (λ more. (part_of s n).taken ++ more) (sym gained_cleared)
