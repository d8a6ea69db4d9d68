-- The total of values: how many there are, and the sum of the numbers that they stand for.
use Rattle.std.specs.Prelude.{ℕ, ℤ, pos, ◌+ℤ◌, List, map, length, slice_index_or}
use Rattle.std.specs.List.{fold}
use Rattle.hume_base.specs.declared.types.Ty.{Ty}
use Rattle.hume_base.specs.declared.types.Types.{Types}
use Rattle.hume_base.specs.declared.types.Value.{Value}
use Rattle.hume_base.specs.Flat.{flat}
use Rattle.hume_base.specs.Words.{int_of}
use Rattle.stream_totals.specs.declared.total.Total.{Total}

-- the number that a value of these words stands for: that of its first word, by two's complement
abbrev pub number_of : List ℕ → ℤ
number_of words = int_of (slice_index_or words 0 0)

-- the sum of the numbers of values, behind what there is
abbrev pub sum_from : ℤ → List (List ℕ) → ℤ
sum_from before rows = fold (λ sum words. sum +ℤ number_of words) before rows

-- the total of values, by the words of each
abbrev pub total_of_words : List (List ℕ) → Total
total_of_words rows = record { count = length rows; sum = sum_from (pos 0) rows }

-- the total of values of a type
abbrev pub total_of : Types → Ty → List Value → Total
total_of types ty values = total_of_words (map (flat types ty) values)
