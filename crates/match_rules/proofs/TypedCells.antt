-- What cells hold, by the types that are asked of their wires.
use Rattle.std.proofs.Common.{◌≡◌, List, map, true, ap, ◌∙◌, subst}
use Rattle.std.specs.List.{list_all}
use Rattle.hume_base.specs.declared.types.Ty.{Ty}
use Rattle.hume_base.specs.declared.types.Value.{Value}
use Rattle.hume_base.specs.Sizes.{size_of}
use Rattle.hume_base.specs.Values.{is_value}
use Rattle.hume_base.specs.Flat.{flat}
use Rattle.hume_model.specs.declared.core_tree.Core.{Core}
use Rattle.wire_cells.specs.Cells.{CellView}
use Rattle.match_rules.specs.Inputs.{IsCellOf}

module _ {core : Core} {type : Ty} {cell : CellView} {held : List Value} (is : IsCellOf core type cell held) where
  pub words_held : cell.values ≡ map (flat core.types type) held
  words_held = subst (λ ty. cell.values ≡ map (flat core.types ty) held) is.ty is.holds.words

  pub typed_held : list_all (is_value core.types type) held ≡ true
  typed_held = subst (λ ty. list_all (is_value core.types ty) held ≡ true) is.ty is.holds.typed

  pub whole_words : cell.size ≡ size_of core.types type
  whole_words = is.holds.whole ∙ ap (size_of core.types) is.ty
