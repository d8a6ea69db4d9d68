-- Which words are those of a value, and which types have words that a value can be read from.
use Rattle.std.specs.Prelude.{◌≡◌, ℕ, ◌+◌, ◌^◌, ◌≤◌, true, List, length, Some, slice_get}
use Rattle.hume_base.specs.declared.limits.TheConstants.{MAX_TYPE_WORDS}
use Rattle.hume_base.specs.declared.types.Ty.{Ty}
use Rattle.hume_base.specs.declared.types.Value.{Value}
use Rattle.hume_base.specs.declared.types.Types.{Types}
use Rattle.hume_base.specs.declared.types.SumDef.{SumDef}
use Rattle.hume_base.specs.Sizes.{named_size}
use Rattle.hume_base.specs.Values.{is_value}
use Rattle.hume_base.specs.Flat.{flat}

-- the words are those of a value of the type
abbrev pub AreWordsOf : Types → Ty → List ℕ → Value → Type 0
AreWordsOf types ty words value = (is_value types ty value ≡ true) × (flat types ty value ≡ words)

-- a data type is no larger than the size that is written beside it can tell, and 32 bits number its constructors
pub record HasReadableSize (types : Types) (number : ℕ) (sum : SumDef) : Type 0 where
  pub words : named_size types (length types.sums) number ≤ MAX_TYPE_WORDS + 1
  pub constructors : length sum.cons ≤ 2 ^ 32

-- so is each data type
abbrev pub HaveReadableSizes : Types → Type 0
HaveReadableSizes types = (number : ℕ) (sum : SumDef) → slice_get types.sums number ≡ Some sum → HasReadableSize types number sum
