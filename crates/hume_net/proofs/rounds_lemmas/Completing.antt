-- A superstep of a whole state is that of its piece, with the values that were taken earlier and those that come later.
use Rattle.std.proofs.Common.{◌≡◌, ℕ, ◌≤◌, Bool, true, false, cond, List, [], ◌∷◌, ◌++◌, map, length, Option, Some, None, slice_get, refl, ap, sym, ◌∙◌, subst, inl, inr, ◌⊎◌, arith}
use Rattle.std.proofs.lemmas.List.{append_assoc}
use Rattle.std.specs.Option.{is_some, unwrap_or}
use Rattle.hume_base.specs.declared.types.Value.{Value}
use Rattle.hume_model.specs.declared.core_tree.BoxC.{BoxC}
use Rattle.hume_model.specs.declared.core_tree.NodeC.{NodeC}
use Rattle.hume_model.specs.declared.core_tree.NodeC.TheVariants.{Rules, From, To}
use Rattle.hume_model.specs.declared.core_tree.Core.{Core}
use Rattle.hume_model.specs.declared.outcome.Firing.{Firing}
use Rattle.hume_model.specs.Firing.{fire}
use Rattle.hume_net.specs.declared.state.Part.{Part}
use Rattle.hume_net.specs.declared.state.State.{State}
use Rattle.hume_net.specs.declared.state.HalfStep.{HalfStep}
use Rattle.hume_net.specs.HalfSteps.{execute, super_step, fired, idle, assert_pending, assert_next, have_room, oldest, values_there}
use Rattle.hume_net.specs.Sides.{part_of, inputs, outputs, rooms, executed, executed_at, stepped, stepped_at}
use Rattle.hume_net.specs.Lockstep.{mid, up}
use Rattle.hume_net.specs.Nodes.{IsInput}
use Rattle.hume_net.proofs.Gathered.{mid_part, up_part, mid_wire, up_wire}
use Rattle.hume_net.proofs.Times.{same_executed, same_stepped}
use Rattle.hume_net.specs.rounds.Pieces.{completed, IsPieceOf, IsFilled}

-- half steps of one node

module _ (earlier later : List Value) where
  abbrev half : HalfStep → HalfStep
  half it = record { part = completed earlier later it.part; side = it.side }

  half_when : (test : Bool) (g h g' h' : HalfStep) → g' ≡ half g → h' ≡ half h → cond test g' h' ≡ half (cond test g h)
  half_when true g h g' h' e f = e
  half_when false g h g' h' e f = f

  fired_completed : (b : BoxC) (part : Part) (wires : List (List Value)) (firing : Option Firing)
      → fired b (completed earlier later part) wires firing ≡ half (fired b part wires firing)
  fired_completed b part wires None = refl
  fired_completed b part wires (Some firing) = refl

  execute_completed : (core : Core) (node : NodeC) (part : Part) (wires : List (List Value))
      → execute core node (completed earlier later part) wires ≡ half (execute core node part wires)
  execute_completed core (Rules b) part wires =
      half_when (is_some part.pending) (idle part wires) _ (idle (completed earlier later part) wires) _ refl
      (fired_completed b part wires (fire core b part.order (map oldest wires)))
  execute_completed core (From stream) part wires = refl
  execute_completed core (To stream) part wires =
      λ i. record {
        part = record {
          pending = part.pending;
          order = part.order;
          coming = part.coming ++ later;
          taken = append_assoc earlier part.taken (values_there (map oldest wires)) i;
        };
        side = (execute core (To stream) part wires).side;
      }

  pending_completed : (part : Part) (rooms : List Bool) (wires : List (List Value)) (pending : Option (List (Option Value)))
      → assert_pending (completed earlier later part) rooms wires pending ≡ half (assert_pending part rooms wires pending)
  pending_completed part rooms wires None = refl
  pending_completed part rooms wires (Some values) =
      half_when (have_room values rooms) _ (idle part wires) _ (idle (completed earlier later part) wires) refl refl

  -- an input stream asserts the same value, if it has one to come or all are there
  next_completed : (part : Part) (rooms : List Bool) (wires : List (List Value)) (coming : List Value) → (later ≡ []) ⊎ (1 ≤ length coming)
      → assert_next (completed earlier later part) rooms wires (coming ++ later) ≡ half (assert_next part rooms wires coming)
  next_completed part rooms wires [] (inl none) = ap (assert_next (completed earlier later part) rooms wires) none
  next_completed part rooms wires [] (inr some) = absurd (omega (arith, some))
  next_completed part rooms wires (v ∷ coming) enough =
      half_when (have_room (Some v ∷ []) rooms) _ (idle part wires) _ (idle (completed earlier later part) wires) refl refl

  abbrev Enough : NodeC → Part → Type 0
  Enough node part = IsInput (Some node) → (later ≡ []) ⊎ (1 ≤ length part.coming)

  super_completed : (node : NodeC) (part : Part) (rooms : List Bool) (wires : List (List Value)) → Enough node part
      → super_step node (completed earlier later part) rooms wires ≡ half (super_step node part rooms wires)
  super_completed (Rules b) part rooms wires enough = pending_completed part rooms wires part.pending
  super_completed (From stream) part rooms wires enough = next_completed part rooms wires part.coming (enough tt)
  super_completed (To stream) part rooms wires enough = refl

-- half steps of all nodes

module _ (core : Core) (earlier later : ℕ → List Value) (piece whole : State) (is_piece : IsPieceOf core earlier later piece whole) where
  -- the piece with the wires of the whole
  abbrev wired : State
  wired = record piece { wires = whole.wires }

  executed_piece : (n : ℕ) → executed core piece n ≡ executed core wired n
  executed_piece n = same_executed core piece wired n refl (λ w wire found to. sym (is_piece.wires w wire found))

  stepped_piece : (n : ℕ) → stepped core piece n ≡ stepped core wired n
  stepped_piece n = same_stepped core piece wired n refl (λ w wire found from. sym (is_piece.wires w wire found))

  module _ (n : ℕ) (node : NodeC) (is : slice_get core.nodes n ≡ Some node) where
    executed_whole : executed core whole n ≡ half (earlier n) (later n) (executed core piece n)
    executed_whole =
        ap (executed_at core whole n) is
        ∙ ap (λ part. execute core node part (inputs core whole n node)) (is_piece.parts n node is)
        ∙ execute_completed (earlier n) (later n) core node (part_of piece n) (inputs core whole n node)
        ∙ ap (λ o. half (earlier n) (later n) (executed_at core wired n o)) (sym is)
        ∙ ap (half (earlier n) (later n)) (sym (executed_piece n))

    stepped_whole : Enough (earlier n) (later n) node (part_of piece n) → stepped core whole n ≡ half (earlier n) (later n) (stepped core piece n)
    stepped_whole enough =
        ap (stepped_at core whole n) is
        ∙ ap (λ part. super_step node part (rooms core whole n node) (outputs core whole n node)) (is_piece.parts n node is)
        ∙ super_completed (earlier n) (later n) node (part_of piece n) (rooms core whole n node) (outputs core whole n node) enough
        ∙ ap (λ o. half (earlier n) (later n) (stepped_at core wired n o)) (sym is)
        ∙ ap (half (earlier n) (later n)) (sym (stepped_piece n))

  executed_side : (n : ℕ) (o : Option NodeC) → slice_get core.nodes n ≡ o → (executed core whole n).side ≡ (executed core piece n).side
  executed_side n None is = ap (λ o. (executed_at core whole n o).side) is ∙ ap (λ o. (executed_at core piece n o).side) (sym is)
  executed_side n (Some node) is = ap (λ it. it.side) (executed_whole n node is)

  pub mid_piece : IsPieceOf core earlier later (mid core piece) (mid core whole)
  mid_piece = record {
    wires = λ w wire found.
        mid_wire core whole w wire found
        ∙ ap (λ side. unwrap_or (slice_get side wire.to_port) []) (executed_side wire.to (slice_get core.nodes wire.to) refl)
        ∙ sym (mid_wire core piece w wire found);
    parts = λ n node is.
        mid_part core whole n node is
        ∙ ap (λ it. it.part) (executed_whole n node is)
        ∙ ap (completed (earlier n) (later n)) (sym (mid_part core piece n node is));
  }

  module _ (filled : IsFilled core 1 later piece) where
    enough_at : (n : ℕ) (node : NodeC) → slice_get core.nodes n ≡ Some node → Enough (earlier n) (later n) node (part_of piece n)
    enough_at n node is input = filled n (subst IsInput (sym is) input)

    stepped_side : (n : ℕ) (o : Option NodeC) → slice_get core.nodes n ≡ o → (stepped core whole n).side ≡ (stepped core piece n).side
    stepped_side n None is = ap (λ o. (stepped_at core whole n o).side) is ∙ ap (λ o. (stepped_at core piece n o).side) (sym is)
    stepped_side n (Some node) is = ap (λ it. it.side) (stepped_whole n node is (enough_at n node is))

    pub up_piece : IsPieceOf core earlier later (up core piece) (up core whole)
    up_piece = record {
      wires = λ w wire found.
          up_wire core whole w wire found
          ∙ ap (λ side. unwrap_or (slice_get side wire.from_port) []) (stepped_side wire.from (slice_get core.nodes wire.from) refl)
          ∙ sym (up_wire core piece w wire found);
      parts = λ n node is.
          up_part core whole n node is
          ∙ ap (λ it. it.part) (stepped_whole n node is (enough_at n node is))
          ∙ ap (completed (earlier n) (later n)) (sym (up_part core piece n node is));
    }
