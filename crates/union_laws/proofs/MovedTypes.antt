-- The layer of a moved type, and the forms of its values.
use Rattle.std.proofs.Common.{◌≡◌, refl, ap, sym, ◌∙◌}
use Rattle.hume_base.specs.declared.types.Ty.{Ty, out-Ty, roll-Ty, map-Ty, fold-roll-Ty, out-roll-Ty, roll-out-Ty}
use Rattle.hume_base.specs.declared.types.Ty.TheOpen.{Ty-F}
use Rattle.hume_model.specs.Forms.{forms_in, forms_of}
use Rattle.union_laws.specs.declared.moves.Moves.{Moves}
use Rattle.union_laws.specs.Moving.{moved_forms, moved_type, moved_type_layer}

pub moved_out : (moves : Moves) (ty : Ty) → out-Ty (moved_type moves ty) ≡ moved_type_layer moves (map-Ty Ty Ty (moved_type moves) (out-Ty ty))
moved_out moves ty =
    ap (λ t. out-Ty (moved_type moves t)) (sym (roll-out-Ty ty))
    ∙ ap out-Ty (fold-roll-Ty Ty (λ x. roll-Ty (moved_type_layer moves x)) (out-Ty ty))
    ∙ out-roll-Ty (moved_type_layer moves (map-Ty Ty Ty (moved_type moves) (out-Ty ty)))

layer_forms : (moves : Moves) (x : Ty-F Ty) → forms_in (moved_type_layer moves (map-Ty Ty Ty (moved_type moves) x)) ≡ moved_forms moves (forms_in x)
layer_forms moves Ty-F.Bool = refl
layer_forms moves Ty-F.Char = refl
layer_forms moves (Ty-F.Int bits) = refl
layer_forms moves (Ty-F.Nat bits) = refl
layer_forms moves (Ty-F.Tuple tys) = refl
layer_forms moves (Ty-F.Vector count item) = refl
layer_forms moves (Ty-F.Named number) = refl

pub forms_moved : (moves : Moves) (ty : Ty) → forms_of (moved_type moves ty) ≡ moved_forms moves (forms_of ty)
forms_moved moves ty = ap forms_in (moved_out moves ty) ∙ layer_forms moves (out-Ty ty)
