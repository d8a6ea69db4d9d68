-- How many words the values of a type take.
use Rattle.std.specs.Prelude.{◌≡◌, ℕ, zero, suc, ◌+◌, ◌*◌, ◌==◌, min, max, List, [], ◌∷◌, map, length, sum, Option, Some, None, if◌then◌else◌, slice_get}
use Rattle.hume_base.specs.declared.types.Ty.{Ty, fold-Ty}
use Rattle.hume_base.specs.declared.types.Ty.TheOpen.{Ty-F}
use Rattle.hume_base.specs.declared.types.Types.{Types}
use Rattle.hume_base.specs.declared.types.SumDef.{SumDef}
use Rattle.hume_base.specs.declared.types.ConDef.{ConDef}
use Rattle.hume_base.specs.declared.limits.TheConstants.{MAX_TYPE_WORDS}

-- one level of a type, with the sizes of its parts in their places; `named` has the size of each data type
abbrev pub size_step : (ℕ → ℕ) → Ty-F ℕ → ℕ
size_step named Ty-F.Bool = 1
size_step named Ty-F.Char = 1
size_step named (Ty-F.Int bits) = 1
size_step named (Ty-F.Nat bits) = 1
size_step named (Ty-F.Tuple parts) = sum parts
size_step named (Ty-F.Vector count item) = count * item
size_step named (Ty-F.Named number) = named number

-- the size of a type, by the size of each data type
abbrev pub size_with : (ℕ → ℕ) → Ty → ℕ
size_with named = fold-Ty ℕ (size_step named)

-- the size of several values, one after another
abbrev pub sizes_with : (ℕ → ℕ) → List Ty → ℕ
sizes_with named tys = sum (map (size_with named) tys)

-- the greatest of the numbers; 0 of none
abbrev pub greatest : List ℕ → ℕ
greatest [] = 0
greatest (n ∷ ns) = max n (greatest ns)

-- the place of the constructor, and room for the longest fields
abbrev pub size_of_sum : (ℕ → ℕ) → Option SumDef → ℕ
size_of_sum named None = 0
size_of_sum named (Some sum) = 1 + greatest (map (λ (con : ConDef). sizes_with named con.fields) sum.cons)

-- the size of each data type of a number below the bound, which holds only data types of smaller numbers
unfoldable pub named_size : Types → ℕ → ℕ → ℕ
named_size types zero number = 0
named_size types (suc bound) number =
    if number == bound then size_of_sum (named_size types bound) (slice_get types.sums bound) else named_size types bound number

-- the size of a type
abbrev pub size_of : Types → Ty → ℕ
size_of types ty = size_with (named_size types (length types.sums)) ty

-- a size as it is written down: any that is larger than a written type may have is one word more than that
abbrev pub written_size : ℕ → ℕ
written_size size = min size (MAX_TYPE_WORDS + 1)

-- each data type has its size written beside it
abbrev pub HaveTheirSizes : Types → Type 0
HaveTheirSizes types =
    (number : ℕ) (sum : SumDef) → slice_get types.sums number ≡ Some sum → sum.words ≡ written_size (named_size types (length types.sums) number)
