-- Scalar types as one level of a type.
use Rattle.hume_base.specs.declared.types.Ty.{Ty}
use Rattle.hume_base.specs.declared.types.Ty.TheOpen.{Ty-F}
use Rattle.box_code.specs.declared.instr.Scalar.{Scalar}
use Rattle.box_code.specs.declared.instr.Scalar.TheVariants as scalar

abbrev pub layer_of : Scalar → Ty-F Ty
layer_of scalar.Bool = Ty-F.Bool
layer_of scalar.Char = Ty-F.Char
layer_of (scalar.Int bits) = Ty-F.Int bits
layer_of (scalar.Nat bits) = Ty-F.Nat bits
