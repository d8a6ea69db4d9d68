-- The words of objects that build an input, by its type and by its value.
use Rattle.std.specs.Prelude.{ℕ, zero, suc, ◌+◌, ◌*◌, ◌==◌, map, length, sum, Option, Some, None, if◌then◌else◌, slice_get}
use Rattle.hume_base.specs.declared.types.Ty.{Ty, fold-Ty}
use Rattle.hume_base.specs.declared.types.Ty.TheOpen.{Ty-F}
use Rattle.hume_base.specs.declared.types.ConDef.{ConDef}
use Rattle.hume_base.specs.declared.types.SumDef.{SumDef}
use Rattle.hume_base.specs.declared.types.Types.{Types}
use Rattle.hume_base.specs.declared.types.Value.{Value, fold-Value}
use Rattle.hume_base.specs.declared.types.Value.TheOpen.{Value-F}
use Rattle.hume_base.specs.Sizes.{greatest}

-- one level of a type, with the words that build its parts; `named` has those of each data type
abbrev pub build_step : (ℕ → ℕ) → Ty-F ℕ → ℕ
build_step named Ty-F.Bool = 0
build_step named Ty-F.Char = 0
build_step named (Ty-F.Int bits) = 0
build_step named (Ty-F.Nat bits) = 0
build_step named (Ty-F.Tuple parts) = (1 + length parts) + sum parts
build_step named (Ty-F.Vector count item) = (1 + count) + count * item
build_step named (Ty-F.Named number) = named number

-- the most words that build a value of the type, by those of each data type
abbrev pub build_with : (ℕ → ℕ) → Ty → ℕ
build_with named = fold-Ty ℕ (build_step named)

-- an object of a constructor, with its fields
abbrev pub build_of_con : (Ty → ℕ) → ConDef → ℕ
build_of_con build con = (1 + length con.fields) + sum (map build con.fields)

-- the dearest constructor
abbrev pub build_of_sum : (Ty → ℕ) → Option SumDef → ℕ
build_of_sum build None = 0
build_of_sum build (Some sum_type) = greatest (map (build_of_con build) sum_type.cons)

-- the words for each data type of a number below the bound, which holds only data types of smaller numbers
unfoldable pub named_build : Types → ℕ → ℕ → ℕ
named_build types zero number = 0
named_build types (suc bound) number =
    if number == bound then build_of_sum (build_with (named_build types bound)) (slice_get types.sums bound) else named_build types bound number

-- the most words that build a value of the type
abbrev pub build_of : Types → Ty → ℕ
build_of types = build_with (named_build types (length types.sums))

-- one level of a value, with the words that build its parts
abbrev pub built_step : Value-F ℕ → ℕ
built_step (Value-F.Word word) = 0
built_step (Value-F.Tuple parts) = (1 + length parts) + sum parts
built_step (Value-F.Vector items) = (1 + length items) + sum items
built_step (Value-F.Con place fields) = (1 + length fields) + sum fields

-- the words that build the value
abbrev pub built_of : Value → ℕ
built_of = fold-Value ℕ built_step
