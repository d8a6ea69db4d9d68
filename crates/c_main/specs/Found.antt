-- The types of which values are read or written, and their numbers.
use Rattle.std.specs.Prelude.{ℕ, ◌+◌, ◌==◌, ◌&&◌, ◌||◌, Bool, true, false, List, [], ◌∷◌, ◌++◌, map, Option, Some, None, decimal, if◌then◌else◌}
use Rattle.std.specs.List.{flat_map, list_any}
use Rattle.hume_base.specs.declared.types.Ty.{Ty, fold-Ty}
use Rattle.hume_base.specs.declared.types.Ty.TheOpen.{Ty-F}
use Rattle.hume_base.specs.declared.types.Ty.TheVariants as ty
use Rattle.hume_base.specs.declared.types.Types.{Types}
use Rattle.hume_base.specs.declared.types.SumDef.{SumDef}
use Rattle.hume_base.specs.declared.types.ConDef.{ConDef}
use Rattle.c_types.specs.Gathered.{Made, data_type, of_parts, with_each}
use Rattle.c_types.specs.inner.SameTypes.{is_same}

-- one level of a type, with the numbers of the data types that its parts name
abbrev pub data_step : Ty-F (List ℕ) → List ℕ
data_step (Ty-F.Tuple parts) = flat_map (λ part. part) parts
data_step (Ty-F.Vector count item) = item
data_step (Ty-F.Named number) = number ∷ []
data_step _ = []

-- the numbers of the data types that a type names
abbrev pub data_in : Ty → List ℕ
data_in = fold-Ty (List ℕ) data_step

-- the numbers of the data types that fields of constructors name
abbrev pub fields_data : List ConDef → List ℕ
fields_data cons = flat_map (λ (con : ConDef). flat_map data_in con.fields) cons

abbrev pub is_among : ℕ → List ℕ → Bool
is_among number numbers = list_any (λ other. other == number) numbers

-- Whether types need the data type of a number: one of them names it, or a field of a data type that they need, among those from a place on.
abbrev pub need : List Ty → ℕ → List SumDef → ℕ → Bool
need tys place [] number = is_among number (flat_map data_in tys)
need tys place (sum ∷ sums) number =
    need tys (place + 1) sums number || (need tys (place + 1) sums place && is_among number (fields_data sum.cons))

-- one level of a type, with what its parts are made of
abbrev pub parts_step : Ty-F Made → Made
parts_step Ty-F.Bool = of_parts ty.Bool []
parts_step Ty-F.Char = of_parts ty.Char []
parts_step (Ty-F.Int bits) = of_parts (ty.Int bits) []
parts_step (Ty-F.Nat bits) = of_parts (ty.Nat bits) []
parts_step (Ty-F.Tuple parts) = of_parts (ty.Tuple (map (λ (part : Made). part.0) parts)) (flat_map (λ (part : Made). part.1) parts)
parts_step (Ty-F.Vector count item) = of_parts (ty.Vector count item.0) item.1
parts_step (Ty-F.Named number) = (ty.Named number, [])

-- the types but data types that a type is made of, itself among them, each behind its parts
abbrev pub parts_of : Ty → List Ty
parts_of it = (fold-Ty Made parts_step it).1

-- the same of fields of constructors
abbrev pub fields_parts : List ConDef → List Ty
fields_parts cons = flat_map (λ (con : ConDef). flat_map parts_of con.fields) cons

-- a data type, if it is needed, behind what its fields are made of
abbrev pub with_one : Bool → List Ty → ℕ → SumDef → List Ty
with_one true found number sum = with_each found (fields_parts sum.cons) ++ data_type number ∷ []
with_one false found number sum = found

-- those of the data types from a number on that are needed
abbrev pub with_data : (ℕ → Bool) → List Ty → ℕ → List SumDef → List Ty
with_data needed found number [] = found
with_data needed found number (sum ∷ sums) = with_data needed (with_one (needed number) found number sum) (number + 1) sums

-- the types that types are made of, themselves among them: the data types that they need, and then the others, each behind its parts
abbrev pub found_types : Types → List Ty → List Ty
found_types types tys = with_each (with_data (need tys 0 types.sums) [] 0 types.sums) (flat_map parts_of tys)

-- the place of a type, where the first one has that place
abbrev pub place_from : ℕ → Ty → List Ty → Option ℕ
place_from place it [] = None
place_from place it (first ∷ others) = if is_same first it then Some place else place_from (place + 1) it others

abbrev pub or_none : Option ℕ → ℕ
or_none None = 0
or_none (Some number) = number

-- the number of a type among others
abbrev pub number_text : List Ty → Ty → List ℕ
number_text found it = decimal (or_none (place_from 0 it found))
