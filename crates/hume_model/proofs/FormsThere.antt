-- The forms of the values of a type are there where the type is.
use Rattle.std.proofs.Common.{◌≡◌, Bool, true, length, refl, ap, sym, ◌∙◌}
use Rattle.hume_base.specs.declared.types.Ty.{Ty, out-Ty, map-Ty, fold-roll-Ty, roll-out-Ty}
use Rattle.hume_base.specs.declared.types.Ty.TheOpen.{Ty-F}
use Rattle.hume_base.specs.declared.types.Types.{Types}
use Rattle.hume_model.specs.Forms.{are_there, forms_in, forms_of}
use Rattle.hume_model.specs.TypeLimits.{is_type, type_step}

layer_there : (types : Types) (x : Ty-F Ty) → type_step (length types.sums) (map-Ty Ty Bool (is_type types) x) ≡ true → are_there types (forms_in x) ≡ true
layer_there types Ty-F.Bool is = refl
layer_there types Ty-F.Char is = refl
layer_there types (Ty-F.Int bits) is = refl
layer_there types (Ty-F.Nat bits) is = refl
layer_there types (Ty-F.Tuple tys) is = refl
layer_there types (Ty-F.Vector count item) is = refl
layer_there types (Ty-F.Named number) is = is

pub forms_there : (types : Types) (ty : Ty) → is_type types ty ≡ true → are_there types (forms_of ty) ≡ true
forms_there types ty is =
    layer_there types (out-Ty ty) (sym (fold-roll-Ty Bool (type_step (length types.sums)) (out-Ty ty)) ∙ ap (is_type types) (roll-out-Ty ty) ∙ is)
