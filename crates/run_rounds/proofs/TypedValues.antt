-- Values of lines are of the type.
use Rattle.std.proofs.Common.{◌≡◌, ℕ, true, List, [], ◌∷◌, refl}
use Rattle.std.specs.List.{AllZip, list_all}
use Rattle.hume_base.specs.declared.types.Ty.{Ty}
use Rattle.hume_base.specs.declared.types.Types.{Types}
use Rattle.hume_base.specs.declared.types.Value.{Value}
use Rattle.hume_base.specs.Values.{is_value}
use Rattle.hume_streams.specs.Good.{HoldsValue}

pub values_typed : (types : Types) (ty : Ty) (lines : List (List ℕ)) (values : List Value) → AllZip (HoldsValue types ty) lines values
    → list_all (is_value types ty) values ≡ true
values_typed types ty lines [] texts = refl
values_typed types ty [] (value ∷ values) texts = absurd texts
values_typed types ty (line ∷ lines) (value ∷ values) texts =
    rw (texts.0.typed) (values_typed types ty lines values texts.1)
