-- What stands in a row of words once others are written into it.
use Rattle.std.specs.Prelude.{◌≡◌, ℕ, ◌+◌, List, ◌++◌, length, take, Some, slice_get}
use Rattle.hume_base.specs.declared.types.Ty.{Ty}
use Rattle.hume_base.specs.declared.types.Value.{Value}
use Rattle.hume_base.specs.declared.types.Types.{Types}
use Rattle.hume_base.specs.declared.types.SumDef.{SumDef}
use Rattle.hume_base.specs.Sizes.{named_size}
use Rattle.hume_base.specs.Flat.{flat_with, named_words}

-- the words of a value of a type that holds only data types of numbers below the bound
abbrev pub flat_below : Types → ℕ → Ty → Value → List ℕ
flat_below types bound = flat_with (named_words types bound)

-- these words are written from a place on, up to `end`: those before them stay, and those behind them may be any
pub record IsWritten (old : List ℕ) (at : ℕ) (words : List ℕ) (new : List ℕ) (end : ℕ) : Type 0 where
  pub front : take end new ≡ take at old ++ words
  pub place : end ≡ at + length words
  pub room : length new ≡ length old

-- the size that is written beside each data type is its own
abbrev pub HaveExactSizes : Types → Type 0
HaveExactSizes types = (number : ℕ) (sum : SumDef) → slice_get types.sums number ≡ Some sum → sum.words ≡ named_size types (length types.sums) number
