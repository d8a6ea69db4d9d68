-- Which types a C file declares, and which type of C a type is.
use Rattle.std.specs.Prelude.{ℕ, ◌+◌, ◌^◌, nat_lt, List, [], ◌∷◌, ◌++◌, map, codes, decimal, Option, Some, None, if◌then◌else◌, slice_get}
use Rattle.std.specs.List.{flat_map, list_any}
use Rattle.hume_base.specs.declared.types.Ty.{Ty, out-Ty, fold-Ty}
use Rattle.hume_base.specs.declared.types.Ty.TheOpen.{Ty-F}
use Rattle.hume_base.specs.declared.types.Ty.TheVariants as ty
use Rattle.hume_base.specs.declared.types.Types.{Types}
use Rattle.hume_base.specs.declared.types.SumDef.{SumDef}
use Rattle.hume_base.specs.declared.types.ConDef.{ConDef}
use Rattle.c_tree.specs.declared.tree.Width.TheVariants.{W16}
use Rattle.c_tree.specs.declared.tree.CType.{CType}
use Rattle.c_tree.specs.declared.tree.CType.TheVariants as type
use Rattle.c_tree.specs.declared.tree.CExp.{CExp}
use Rattle.c_tree.specs.declared.tree.CExp.TheVariants as exp
use Rattle.c_names.specs.declared.names.Names.{Names}
use Rattle.c_names.specs.Names.{inner}
use Rattle.c_types.specs.Shapes.{scalar_type}
use Rattle.c_types.specs.inner.SameTypes.{is_same}
use Rattle.c_types.specs.declared.gathered.CTypes.{CTypes}

-- the data types and the names of a program, and the types that its file declares, in their order
pub record Gathered : Type 0 where
  pub types : Types
  pub names : Names
  pub tys : List Ty

-- what code has gathered
abbrev pub gathered : CTypes → Gathered
gathered c_types = record { types = c_types.types.now; names = c_types.names.now; tys = c_types.tys }

-- the list with the type at its end, where it isn't there yet
abbrev pub with_type : List Ty → Ty → List Ty
with_type tys it = if list_any (λ other. is_same other it) tys then tys else tys ++ it ∷ []

-- the list with one type after another at its end, each where it isn't there yet
abbrev pub with_each : List Ty → List Ty → List Ty
with_each tys [] = tys
with_each tys (first ∷ others) = with_each (with_type tys first) others

-- a type with the tuples and vectors that it is made of, itself among them, each behind its parts
abbrev pub Made : Type 0
Made = Ty × List Ty

-- a type behind what its parts are made of
abbrev pub of_parts : Ty → List Ty → Made
of_parts whole parts = (whole, parts ++ whole ∷ [])

-- one level of a type, with what its parts are made of
abbrev pub made_step : Ty-F Made → Made
made_step Ty-F.Bool = (ty.Bool, [])
made_step Ty-F.Char = (ty.Char, [])
made_step (Ty-F.Int bits) = (ty.Int bits, [])
made_step (Ty-F.Nat bits) = (ty.Nat bits, [])
made_step (Ty-F.Tuple parts) = of_parts (ty.Tuple (map (λ (part : Made). part.0) parts)) (flat_map (λ (part : Made). part.1) parts)
made_step (Ty-F.Vector count item) = of_parts (ty.Vector count item.0) item.1
made_step (Ty-F.Named number) = (ty.Named number, [])

-- the tuples and vectors that the type is made of, itself among them, each behind its parts
abbrev pub made_of : Ty → List Ty
made_of it = (fold-Ty Made made_step it).1

-- the list with a type taken in behind those that it is made of, each where it isn't there yet
abbrev pub added : List Ty → Ty → List Ty
added tys it = with_each tys (made_of it)

-- the list with what the fields of a data type are made of
abbrev pub with_fields : List Ty → SumDef → List Ty
with_fields tys sum = with_each tys (flat_map (λ (con : ConDef). flat_map made_of con.fields) sum.cons)

-- the data type of a number, which has at most 32 bits
abbrev pub data_type : ℕ → Ty
data_type number = if nat_lt number (2 ^ 32) then ty.Named number else ty.Bool

-- the data types from a number on, each behind what its fields are made of
abbrev pub with_data_types : List Ty → ℕ → List SumDef → List Ty
with_data_types tys number [] = tys
with_data_types tys number (sum ∷ sums) = with_data_types (with_fields tys sum ++ data_type number ∷ []) (number + 1) sums

-- what a file declares of a program's data types
abbrev pub gathered_of : Types → Names → Gathered
gathered_of types names = record { types = types; names = names; tys = with_data_types [] 0 types.sums }

-- with a type taken in
abbrev pub with_added : Gathered → Ty → Gathered
with_added all it = record { types = all.types; names = all.names; tys = added all.tys it }

-- one tuple or vector, or none
abbrev pub made_count : Ty-F Ty → ℕ
made_count (Ty-F.Tuple parts) = 1
made_count (Ty-F.Vector count item) = 1
made_count _ = 0

-- how many tuples and vectors there are up to the type
abbrev pub number_of : List Ty → Ty → ℕ
number_of [] it = 0
number_of (first ∷ others) it = made_count (out-Ty first) + (if is_same first it then 0 else number_of others it)

-- a tuple or a vector is named by a word and its number
abbrev pub numbered_type : Gathered → List ℕ → Ty → CType
numbered_type all word it = type.Named (inner all.names word (decimal (number_of all.tys it)))

-- of a data type that isn't there, a truth value
abbrev pub data_type_of : Names → Option SumDef → CType
data_type_of names None = type.Bool
data_type_of names (Some sum) = type.Named (inner names (codes "T_") sum.name)

-- one level of a type, with the type itself
abbrev pub c_type_in : Gathered → Ty → Ty-F Ty → CType
c_type_in all it (Ty-F.Tuple parts) = numbered_type all (codes "Tuple") it
c_type_in all it (Ty-F.Vector count item) = numbered_type all (codes "Vector") it
c_type_in all it (Ty-F.Named number) = data_type_of all.names (slice_get all.types.sums number)
c_type_in all it _ = scalar_type it

-- the type of C that the type is
abbrev pub c_type : Gathered → Ty → CType
c_type all it = c_type_in all it (out-Ty it)

-- the constant of a constructor at a place, or of none there
abbrev pub tag_in : Names → ℕ → Option ConDef → CExp
tag_in names place None = exp.Unsigned W16 place
tag_in names place (Some con) = if nat_lt place 32768 then exp.Name (inner names (codes "C_") con.name) else exp.Unsigned W16 place

-- the constant of a constructor: by its name, or by its place where an `int` of 16 bits doesn't hold that
abbrev pub tag : Names → SumDef → ℕ → CExp
tag names sum place = tag_in names place (slice_get sum.cons place)
