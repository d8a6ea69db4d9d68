-- A side of a single cell.
use Rattle.std.proofs.Common.{◌≡◌, ◌&&◌, ℕ, Bool, true, false, if◌then◌else◌, List, [], ◌∷◌, map, length, Option, Some, slice_get, refl, ap, sym, ◌∙◌, subst, arith}
use Rattle.std.proofs.Math.ListN.{set}
use Rattle.wire_cells.specs.Cells.{CellView}
use Rattle.match_rules.specs.Outputs.{has_room_for, have_room_for, cell_with, cells_with, FitCells, asserted_in}
use Rattle.box_step.specs.nodes.Sides.{ticked}

one_cell : (cells : List CellView) (cell : CellView) → length cells ≡ 1 → slice_get cells 0 ≡ Some cell → cells ≡ cell ∷ []
one_cell [] cell one there = absurd (omega (arith, one))
one_cell (x ∷ []) cell one there = (let same : x ≡ cell = cc in ap (λ c. c ∷ []) same)
one_cell (x ∷ y ∷ cells) cell one there = absurd (omega (arith, one))

and_true : (b : Bool) → (b && true) ≡ b
and_true true = refl
and_true false = refl

asserted_when : (roomy : Bool) (outputs : ℕ → Option (List ℕ)) (cell : CellView)
    → map ticked (if roomy then cells_with outputs 0 (cell ∷ []) else cell ∷ []) ≡ ticked (if roomy then cell_with (outputs 0) cell else cell) ∷ []
asserted_when true outputs cell = refl
asserted_when false outputs cell = refl

module _ (outputs : ℕ → Option (List ℕ)) (cells : List CellView) (cell : CellView) (one : length cells ≡ 1) (there : slice_get cells 0 ≡ Some cell) where
  pub room_one : have_room_for outputs 0 cells ≡ has_room_for (outputs 0) cell
  room_one = ap (have_room_for outputs 0) (one_cell cells cell one there) ∙ and_true (has_room_for (outputs 0) cell)

  pub fit_one : FitCells outputs 0 cells → (words : List ℕ) → outputs 0 ≡ Some words → length words ≡ cell.size
  fit_one fit = (subst (FitCells outputs 0) (one_cell cells cell one there) fit).0

  asserted_one : map ticked (asserted_in outputs cells) ≡ ticked (if has_room_for (outputs 0) cell then cell_with (outputs 0) cell else cell) ∷ []
  asserted_one =
      ap (λ cs. map ticked (asserted_in outputs cs)) (one_cell cells cell one there)
      ∙ ap (λ roomy. map ticked (if roomy then cells_with outputs 0 (cell ∷ []) else cell ∷ [])) (and_true (has_room_for (outputs 0) cell))
      ∙ asserted_when (has_room_for (outputs 0) cell) outputs cell

  pub set_one : set cells 0 (ticked (if has_room_for (outputs 0) cell then cell_with (outputs 0) cell else cell)) ≡ map ticked (asserted_in outputs cells)
  set_one =
      ap (λ cs. set cs 0 (ticked (if has_room_for (outputs 0) cell then cell_with (outputs 0) cell else cell))) (one_cell cells cell one there)
      ∙ sym asserted_one

-- the only cell is made into another
pub one_made : (made : CellView → CellView) (cells : List CellView) (cell : CellView) → length cells ≡ 1 → slice_get cells 0 ≡ Some cell
    → set cells 0 (made cell) ≡ map made cells
one_made made cells cell one there =
    let is = one_cell cells cell one there in
    ap (λ cs. set cs 0 (made cell)) is ∙ ap (map made) (sym is)
