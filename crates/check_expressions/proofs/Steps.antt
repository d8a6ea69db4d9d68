-- One level of types.
use Rattle.std.proofs.Common.{◌≡◌, refl}
use Rattle.std.proofs.lemmas.Grind.{common_steps}
use Rattle.std.specs.Prelude.{ℤ, Some, None}
use Rattle.hume_base.specs.declared.types.Ty.{Ty, the_lemmas as ty_lemmas}
use Rattle.hume_base.specs.declared.types.Ty.TheOpen.{Ty-F}
use Rattle.hume_model.specs.Typing.{is_number_layer, is_ordered_layer, is_scalar_layer}
use Rattle.check_scopes.specs.types.Contexts.{shape_of}
use Rattle.check_typing.specs.Patterns.{is_number_of}
use Rattle.check_typing.proofs.SameTypes.{is_same-Decides}
use Rattle.check_expressions.specs.inner.Shapes.{is_number, is_ordered, is_scalar, has_number}

pub number_shape : (layer : Ty-F Ty) → is_number (shape_of layer) ≡ is_number_layer layer
number_shape Ty-F.Bool = refl
number_shape Ty-F.Char = refl
number_shape (Ty-F.Int bits) = refl
number_shape (Ty-F.Nat bits) = refl
number_shape (Ty-F.Tuple parts) = refl
number_shape (Ty-F.Vector count item) = refl
number_shape (Ty-F.Named number) = refl

pub ordered_shape : (layer : Ty-F Ty) → is_ordered (shape_of layer) ≡ is_ordered_layer layer
ordered_shape Ty-F.Bool = refl
ordered_shape Ty-F.Char = refl
ordered_shape (Ty-F.Int bits) = refl
ordered_shape (Ty-F.Nat bits) = refl
ordered_shape (Ty-F.Tuple parts) = refl
ordered_shape (Ty-F.Vector count item) = refl
ordered_shape (Ty-F.Named number) = refl

pub scalar_shape : (layer : Ty-F Ty) → is_scalar (shape_of layer) ≡ is_scalar_layer layer
scalar_shape Ty-F.Bool = refl
scalar_shape Ty-F.Char = refl
scalar_shape (Ty-F.Int bits) = refl
scalar_shape (Ty-F.Nat bits) = refl
scalar_shape (Ty-F.Tuple parts) = refl
scalar_shape (Ty-F.Vector count item) = refl
scalar_shape (Ty-F.Named number) = refl

pub within_shape : (number : ℤ) (layer : Ty-F Ty) → has_number number (shape_of layer) ≡ is_number_of number layer
within_shape number Ty-F.Bool = refl
within_shape number Ty-F.Char = refl
within_shape number (Ty-F.Int bits) = refl
within_shape number (Ty-F.Nat bits) = refl
within_shape number (Ty-F.Tuple parts) = refl
within_shape number (Ty-F.Vector count item) = refl
within_shape number (Ty-F.Named number') = refl

pub ruleset type_steps = (common_steps, ty_lemmas)

pub ruleset same_steps = (common_steps, is_same-Decides)

pub ruleset shape_steps = (common_steps, ty_lemmas, number_shape, ordered_shape, scalar_shape, within_shape)
