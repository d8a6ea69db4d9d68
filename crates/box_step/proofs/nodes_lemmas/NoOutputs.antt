-- Where nothing is pending, nothing is asserted.
use Rattle.std.proofs.Common.{◌≡◌, ℕ, suc, ◌&&◌, true, false, if◌then◌else◌, List, [], ◌∷◌, Option, Some, None, slice_get, refl, ap, sym, ◌∙◌}
use Rattle.std.specs.Option.{is_some, option_and_then}
use Rattle.wire_cells.specs.Cells.{CellView}
use Rattle.match_rules.specs.Outputs.{has_room_for, have_room_for, cell_with, cells_with, FitCells, asserted_in}
use Rattle.box_step.specs.Views.{CompiledView, pending_words}

module _ (outputs : ℕ → Option (List ℕ)) (none : (place : ℕ) → outputs place ≡ None) where
  none_from : (place : ℕ) (cells : List CellView) → have_room_for outputs place cells ≡ true
  none_from place [] = refl
  none_from place (cell ∷ cells) =
      ap (λ o. has_room_for o cell && have_room_for outputs (suc place) cells) (none place) ∙ none_from (suc place) cells

  none_put : (place : ℕ) (cells : List CellView) → cells_with outputs place cells ≡ cells
  none_put place [] = refl
  none_put place (cell ∷ cells) =
      ap (λ o. cell_with o cell ∷ cells_with outputs (suc place) cells) (none place) ∙ ap (λ cs. cell ∷ cs) (none_put (suc place) cells)

  fit_from : (place : ℕ) (cells : List CellView) → FitCells outputs place cells
  fit_from place [] = tt
  fit_from place (cell ∷ cells) = ((λ words is. let both : None ≡ Some words = sym (none place) ∙ is in cc), fit_from (suc place) cells)

  pub none_room : (cells : List CellView) → have_room_for outputs 0 cells ≡ true
  none_room cells = none_from 0 cells

  pub none_fit : (cells : List CellView) → FitCells outputs 0 cells
  none_fit cells = fit_from 0 cells

  pub none_asserted : (cells : List CellView) → asserted_in outputs cells ≡ cells
  none_asserted cells = ap (λ roomy. if roomy then cells_with outputs 0 cells else cells) (none_room cells) ∙ none_put 0 cells

-- of a box without pending outputs

nothing_there : (pending : Option (List (Option (List ℕ)))) → is_some pending ≡ false → pending ≡ None
nothing_there None is = refl
nothing_there (Some outputs) is = cc

module _ (box : CompiledView) (is : is_some box.pending ≡ false) where
  none_pending : box.pending ≡ None
  none_pending = nothing_there box.pending is

  words_none : (place : ℕ) → pending_words box place ≡ None
  words_none place = ap (option_and_then (λ outputs. option_and_then (λ words. words) (slice_get outputs place))) none_pending

  pub nothing_asserted : (cells : List CellView) → cells ≡ asserted_in (pending_words box) cells
  nothing_asserted cells = sym (none_asserted (pending_words box) words_none cells)

  pub nothing_forgotten : (cells : List CellView) → box ≡ (if have_room_for (pending_words box) 0 cells then record box { pending = None } else box)
  nothing_forgotten cells =
      ap (λ p. record box { pending = p }) none_pending
      ∙ sym (ap (λ roomy. if roomy then record box { pending = None } else box) (none_room (pending_words box) words_none cells))
