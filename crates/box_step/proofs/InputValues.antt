-- The values at the inputs of a box.
use Rattle.std.proofs.Common.{◌≡◌, ◌&&◌, true, List, [], ◌∷◌, map, Option, refl, ap, ◌∙◌}
use Rattle.std.specs.List.{list_all}
use Rattle.std.proofs.lemmas.Bool.{and_parts}
use Rattle.hume_base.specs.declared.types.Ty.{Ty}
use Rattle.hume_base.specs.declared.types.Types.{Types}
use Rattle.hume_base.specs.declared.types.Value.{Value}
use Rattle.hume_base.specs.Values.{is_value}
use Rattle.hume_model.specs.declared.core_tree.Core.{Core}
use Rattle.hume_model.specs.ResultTyping.{are_outputs}
use Rattle.hume_net.specs.HalfSteps.{oldest}
use Rattle.wire_cells.specs.Cells.{CellView}
use Rattle.match_rules.specs.Inputs.{AreCellsOf}
use Rattle.match_rules.proofs.TypedCells.{typed_held}

oldest_typed : (types : Types) (ty : Ty) (held : List Value) (tys : List Ty) (others : List (Option Value)) → list_all (is_value types ty) held ≡ true
    → are_outputs types tys others ≡ true → are_outputs types (ty ∷ tys) (oldest held ∷ others) ≡ true
oldest_typed types ty [] tys others all rest = rest
oldest_typed types ty (v ∷ held) tys others all rest = ap (λ t. t && are_outputs types tys others) (and_parts (is_value types ty v) _ all).0 ∙ rest

-- what cells hold is of their types
pub inputs_typed : (core : Core) {tys : List Ty} {cells : List CellView} {values : List (List Value)} → AreCellsOf core tys cells values
    → are_outputs core.types tys (map oldest values) ≡ true
inputs_typed core AreCellsOf.none = refl
inputs_typed core (AreCellsOf.more {type = ty} {types = tys} {held = held} {others = others} one rest) =
    oldest_typed core.types ty held tys (map oldest others) (typed_held one) (inputs_typed core rest)
