-- Sizes that stop one word past what all wires may have.
use Rattle.std.specs.Prelude.{ℕ, ◌+◌, min, List, [], ◌∷◌, ◌++◌, map, Option, Some, None, slice_get}
use Rattle.hume_base.specs.declared.limits.TheConstants.{MAX_WIRE_WORDS}
use Rattle.hume_base.specs.declared.types.Ty.{Ty}
use Rattle.hume_base.specs.declared.types.ConDef.{ConDef}
use Rattle.hume_base.specs.declared.types.SumDef.{SumDef}
use Rattle.hume_base.specs.Sizes.{size_with, sizes_with, greatest}

abbrev pub capped : ℕ → ℕ
capped size = min size (MAX_WIRE_WORDS + 1)

abbrev pub or_none : Option ℕ → ℕ
or_none None = 0
or_none (Some size) = size

-- the size beside the number of a data type
abbrev pub named_in : List ℕ → ℕ → ℕ
named_in sizes number = or_none (slice_get sizes number)

-- the words of a type, by the sizes of data types
abbrev pub words_by : List ℕ → Ty → ℕ
words_by sizes ty = capped (size_with (named_in sizes) ty)

-- the words of a data type of these constructors
abbrev pub data_words : List ℕ → List ConDef → ℕ
data_words sizes cons = capped (1 + greatest (map (λ (con : ConDef). sizes_with (named_in sizes) con.fields) cons))

-- the sizes of further data types behind those that are there
abbrev pub with_sizes : List ℕ → List SumDef → List ℕ
with_sizes sizes [] = sizes
with_sizes sizes (sum ∷ sums) = with_sizes (sizes ++ data_words sizes sum.cons ∷ []) sums

abbrev pub sizes_of : List SumDef → List ℕ
sizes_of sums = with_sizes [] sums
