-- Cells of a side: what they hold before a half step, and that they are right one half step later.
use Rattle.std.proofs.Common.{◌≡◌, ℕ, zero, suc, ◌+◌, List, [], ◌∷◌, map, length, Option, Some, slice_get, refl, ap, sym, ◌∙◌, subst, arith}
use Rattle.std.specs.Option.{option_map, unwrap_or}
use Rattle.std.proofs.lemmas.Option.{slice_get-map}
use Rattle.hume_base.specs.declared.types.Ty.{Ty}
use Rattle.hume_base.specs.declared.types.Value.{Value}
use Rattle.hume_model.specs.declared.core_tree.WireC.{WireC}
use Rattle.hume_model.specs.declared.core_tree.Core.{Core}
use Rattle.hume_net.specs.Lockstep.{at_time, wire_at}
use Rattle.model_bare.proofs.Frames.{was_there}
use Rattle.wire_cells.specs.Cells.{CellView, Holds, without_values}
use Rattle.wire_cells.proofs.Holding.{held_at_time}
use Rattle.match_rules.specs.Inputs.{IsCellOf, AreCellsOf, IsCellAt}
use Rattle.box_step.specs.nodes.Openings.{Opening}
use Rattle.box_step.specs.nodes.Sides.{AreOfSide, AreTicked, ticked}
use Rattle.box_step.specs.nodes.Right.{IsRightWire, AreRightWires}

-- cells that differ from others in values alone

pub kept_at : (new old : List CellView) → map without_values new ≡ map without_values old → (place : ℕ) (cell : CellView) → slice_get new place ≡ Some cell
    → (was : CellView) × (slice_get old place ≡ Some was) × (without_values cell ≡ without_values was)
kept_at new old same place cell found =
    let here = was_there without_values old place (without_values cell)
    (ap (λ cs. slice_get cs place) (sym same) ∙ slice_get-map without_values new place ∙ ap (option_map without_values) found) in
    (here.0, here.1, sym here.2)

kept_ticked : (cells : List CellView) → map without_values (map ticked cells) ≡ map ticked (map without_values cells)
kept_ticked [] = refl
kept_ticked (cell ∷ cells) = ap (λ cs. without_values (ticked cell) ∷ cs) (kept_ticked cells)

ticked_kept : (cells : List CellView) → map ticked (map without_values cells) ≡ map (λ cell. without_values (ticked cell)) cells
ticked_kept [] = refl
ticked_kept (cell ∷ cells) = ap (λ cs. without_values (ticked cell) ∷ cs) (ticked_kept cells)

pub all_ticked : (new old : List CellView) → map without_values new ≡ map without_values old → AreTicked old (map ticked new)
all_ticked new old same = kept_ticked new ∙ ap (map ticked) same ∙ ticked_kept old

-- the cell at a place holds the values at that place
cell_in : (core : Core) {tys : List Ty} {cells : List CellView} {values : List (List Value)} → AreCellsOf core tys cells values
    → (place : ℕ) (cell : CellView) → slice_get cells place ≡ Some cell
    → (ty : Ty) × (held : List Value) × (slice_get values place ≡ Some held) × IsCellOf core ty cell held
cell_in core AreCellsOf.none place cell found = cc
cell_in core (AreCellsOf.more {type = ty} {cell = c} {held = held} one rest) zero cell found =
    let same : c ≡ cell = cc in
    (ty, held, refl, subst (λ x. IsCellOf core ty x held) same one)
cell_in core (AreCellsOf.more one rest) (suc place) cell found = cell_in core rest place cell found

module _ (opening : Opening) (time count : ℕ) (found : ℕ → Option ℕ) (cells : List CellView) (side : AreOfSide count found time cells)
    (right : AreRightWires opening cells) where
  -- before a half step
  pub cell_at : (place : ℕ) (cell : CellView) → slice_get cells place ≡ Some cell
      → IsCellAt opening.core (at_time opening.core opening.state time) (found place) cell
  cell_at place cell there =
      let is = right.each place cell there in
      record {
        is = side.each place cell there;
        wire = is.wire;
        there = is.there;
        holds = subst (λ t. Holds opening.core.types is.wire cell (wire_at opening.core opening.state cell.number t)) (side.times place cell there) is.holds;
      }

  -- one half step later
  module _ (new : List CellView) (rest : map without_values new ≡ map without_values cells) (tys : List Ty) (left : List (List Value))
      (are : AreCellsOf opening.core tys new left)
      (leaves : (place w : ℕ) (wire : WireC) → found place ≡ Some w → slice_get opening.core.wires w ≡ Some wire
      → wire_at opening.core opening.state w (time + 1) ≡ unwrap_or (slice_get left place) []) where
    next_cell : (place : ℕ) (cell : CellView) → slice_get new place ≡ Some cell → IsRightWire opening (ticked cell)
    next_cell place cell there =
        let was = kept_at new cells rest place cell there in
        let old = was.0 in
        let number : cell.number ≡ old.number = ap (λ (c : CellView). c.number) was.2 in
        let at_old : cell.time ≡ old.time = ap (λ (c : CellView). c.time) was.2 in
        let holding = cell_in opening.core are place cell there in
        let of = holding.3 in
        let at = side.each place old was.1 ∙ ap (λ w. Some w) (sym number) in
        let now : cell.time ≡ time = at_old ∙ side.times place old was.1 in
        let held_is : wire_at opening.core opening.state cell.number (cell.time + 1) ≡ holding.1 =
        ap (λ t. wire_at opening.core opening.state cell.number (t + 1)) now ∙ leaves place cell.number of.wire at of.there ∙ ap (λ h. unwrap_or h []) holding.2 in
        record {
          wire = of.wire;
          there = of.there;
          holds = subst (λ held. Holds opening.core.types of.wire (ticked cell) held) (sym held_is)
              (held_at_time opening.core.types of.wire cell holding.1 (cell.time + 1) of.holds);
        }

    pub right_next : AreRightWires opening (map ticked new)
    right_next = record {
      each = λ place cell there.
          let from = was_there ticked new place cell there in
          subst (IsRightWire opening) from.2 (next_cell place from.0 from.1);
    }

-- a side without cells
pub none_right : (opening : Opening) (cells : List CellView) → length cells ≡ 0 → AreRightWires opening (map ticked cells)
none_right opening [] none = record { each = λ place cell there. cc }
none_right opening (cell ∷ cells) none = absurd (omega (arith, none))
