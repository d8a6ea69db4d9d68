-- Which forms the types of C have, and how words of scalars are written.
use Rattle.std.specs.Prelude.{ℕ, ◌-◌, ◌^◌, ◌==◌, nat_lt, nat_le, Bool, true, false, List, [], ◌∷◌, length, Option, Some, None, if◌then◌else◌, slice_get}
use Rattle.std.specs.List.{list_any}
use Rattle.hume_base.specs.declared.types.Ty.{Ty, out-Ty}
use Rattle.hume_base.specs.declared.types.Ty.TheOpen.{Ty-F}
use Rattle.hume_base.specs.declared.types.Types.{Types}
use Rattle.hume_base.specs.declared.types.SumDef.{SumDef}
use Rattle.hume_base.specs.declared.types.ConDef.{ConDef}
use Rattle.c_tree.specs.declared.tree.Width.{Width}
use Rattle.c_tree.specs.declared.tree.Width.TheVariants.{W8, W16}
use Rattle.c_tree.specs.declared.tree.CType.{CType}
use Rattle.c_tree.specs.declared.tree.CType.TheVariants as type
use Rattle.c_tree.specs.declared.tree.CExp.{CExp}
use Rattle.c_tree.specs.declared.tree.CExp.TheVariants as exp
use Rattle.c_types.specs.Widths.{width_of}
use Rattle.c_types.specs.declared.shapes.Shape.{Shape}
use Rattle.c_types.specs.declared.shapes.Shape.TheVariants as shape

-- The form of a type of C: a truth value, a number of that many bits, a data type without fields, one of one constructor with
-- fields, one of several constructors of which some have fields, a tuple, or a vector of that many elements.
pub data Form : Type 0 where
  Truth : Form
  Signed : ℕ → Form
  Unsigned : ℕ → Form
  Enumeration : SumDef → Form
  Record : SumDef → Form
  Tagged : SumDef → Form
  Parts : Form
  Elements : ℕ → Form

-- the form that code has found
abbrev pub seen : Shape → Form
seen shape.Bool = Truth
seen (shape.Signed bits) = Signed bits
seen (shape.Unsigned bits) = Unsigned bits
seen (shape.Enumeration sum) = Enumeration sum.now
seen (shape.Record sum) = Record sum.now
seen (shape.Tagged sum) = Tagged sum.now
seen shape.Tuple = Parts
seen (shape.Vector count) = Elements count

abbrev pub has_some : {A : Type 0} → List A → Bool
has_some [] = false
has_some (first ∷ others) = true

abbrev pub some_have_fields : List ConDef → Bool
some_have_fields cons = list_any (λ (con : ConDef). has_some con.fields) cons

abbrev pub form_of_data : SumDef → Form
form_of_data sum = if some_have_fields sum.cons then (if length sum.cons == 1 then Record sum else Tagged sum) else Enumeration sum

-- of a data type that isn't there, a truth value
abbrev pub form_of_found : Option SumDef → Form
form_of_found None = Truth
form_of_found (Some sum) = form_of_data sum

abbrev pub form_in : Types → Ty-F Ty → Form
form_in types Ty-F.Bool = Truth
form_in types Ty-F.Char = Unsigned 8
form_in types (Ty-F.Int bits) = Signed bits
form_in types (Ty-F.Nat bits) = Unsigned bits
form_in types (Ty-F.Tuple parts) = Parts
form_in types (Ty-F.Vector count item) = Elements count
form_in types (Ty-F.Named number) = form_of_found (slice_get types.sums number)

-- the form of the type of C that the type is
abbrev pub form_of : Types → Ty → Form
form_of types ty = form_in types (out-Ty ty)

abbrev pub is_scalar_form : Form → Bool
is_scalar_form Truth = true
is_scalar_form (Signed bits) = true
is_scalar_form (Unsigned bits) = true
is_scalar_form (Enumeration sum) = true
is_scalar_form (Record sum) = false
is_scalar_form (Tagged sum) = false
is_scalar_form Parts = false
is_scalar_form (Elements count) = false

abbrev pub is_scalar : Types → Ty → Bool
is_scalar types ty = is_scalar_form (form_of types ty)

-- the width of the tags of that many constructors
abbrev pub tag_width : ℕ → Width
tag_width count = if nat_le count 256 then W8 else W16

abbrev pub scalar_type_in : Ty-F Ty → CType
scalar_type_in (Ty-F.Int bits) = type.Signed (width_of bits)
scalar_type_in (Ty-F.Nat bits) = type.Unsigned (width_of bits)
scalar_type_in Ty-F.Char = type.Unsigned W8
scalar_type_in _ = type.Bool

-- the type of C of a scalar that isn't one of a data type
abbrev pub scalar_type : Ty → CType
scalar_type ty = scalar_type_in (out-Ty ty)

-- a word of an `int` of that many bits, in two's complement of 64 bits
abbrev pub signed_literal : ℕ → ℕ → CExp
signed_literal bits word =
    if nat_lt word (2 ^ 63) then exp.Signed (width_of bits) false word else exp.Signed (width_of bits) true (2 ^ 64 - word)

abbrev pub literal_in : Ty-F Ty → ℕ → CExp
literal_in (Ty-F.Int bits) word = signed_literal bits word
literal_in (Ty-F.Nat bits) word = exp.Unsigned (width_of bits) word
literal_in Ty-F.Char word = exp.Unsigned W8 word
literal_in _ word = exp.Truth (if word == 0 then false else true)

-- the word of a scalar type as a constant
abbrev pub literal : Ty → ℕ → CExp
literal ty word = literal_in (out-Ty ty) word
