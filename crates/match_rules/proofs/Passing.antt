-- The positions of a rule, tested one after another.
use Rattle.std.proofs.Common.{◌≡◌, ℕ, zero, suc, ◌&&◌, List, [], ◌∷◌, drop, Some, slice_get, ap, ◌∙◌}
use Rattle.hume_base.specs.declared.types.Types.{Types}
use Rattle.hume_model.specs.declared.core_tree.InPat.{InPat}
use Rattle.hume_model.specs.declared.core_tree.PortC.{PortC}
use Rattle.hume_model.specs.BoxTyping.{port_types}
use Rattle.wire_cells.specs.Cells.{CellView}
use Rattle.match_rules.specs.inner.WordTests.{position_test, positions_test}

module _ (types : Types) where
  pub next_position : (pats : List InPat) (ports : List PortC) (cells : List CellView) (i : ℕ) (pat : InPat) (port : PortC) (cell : CellView)
      → slice_get pats i ≡ Some pat → slice_get ports i ≡ Some port → slice_get cells i ≡ Some cell
      → positions_test types (drop i pats) (port_types (drop i ports)) (drop i cells)
      ≡ (position_test types pat port.ty cell && positions_test types (drop (suc i) pats) (port_types (drop (suc i) ports)) (drop (suc i) cells))
  next_position [] ports cells i pat port cell p q r = cc
  next_position (x ∷ pats) [] cells i pat port cell p q r = cc
  next_position (x ∷ pats) (y ∷ ports) [] i pat port cell p q r = cc
  next_position (x ∷ pats) (y ∷ ports) (z ∷ cells) zero pat port cell p q r =
      let first : x ≡ pat = cc in
      let second : y ≡ port = cc in
      let third : z ≡ cell = cc in
      ap (λ t. t && positions_test types pats (port_types ports) cells) (ap (λ o. position_test types o y.ty z) first
      ∙ ap (λ (o : PortC). position_test types pat o.ty z) second ∙ ap (position_test types pat port.ty) third)
  next_position (x ∷ pats) (y ∷ ports) (z ∷ cells) (suc i) pat port cell p q r = next_position pats ports cells i pat port cell p q r
