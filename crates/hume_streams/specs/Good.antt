-- Which lines of a text are bad, and which values the others have.
use Rattle.std.specs.Prelude.{◌≡◌, ℕ, ◌+◌, ◌<◌, ◌≤◌, not, true, false, List, [], ◌∷◌, ◌++◌, length, reverse, filter, slice_get, Option, Some, None, take}
use Rattle.std.specs.List.{AllZip, prefix_len}
use Rattle.hume_base.specs.declared.limits.TheConstants.{MAX_EMPTY_LINES, MAX_LINE_BYTES}
use Rattle.hume_base.specs.declared.types.Ty.{Ty}
use Rattle.hume_base.specs.declared.types.Types.{Types}
use Rattle.hume_base.specs.declared.types.Value.{Value}
use Rattle.hume_base.specs.Values.{is_value}
use Rattle.hume_text.specs.Read.{IsTextOf, IsReadable}
use Rattle.hume_streams.specs.Lines.{lines_of, without_return, is_empty}

-- how many lines in a row are empty at the end of these
abbrev pub empty_at_end : List (List ℕ) → ℕ
empty_at_end lines = prefix_len is_empty (reverse lines)

-- Why a line is bad behind those before it.
pub data IsBad (types : Types) (ty : Ty) (before : List (List ℕ)) (line : List ℕ) : Type 0 where
  TooLong : MAX_LINE_BYTES < length line → IsBad types ty before line
  NoText : is_empty line ≡ false → (IsReadable types ty (without_return line) → ⊥) → IsBad types ty before line
  -- the empty lines before it are as many as may be in a row
  TooManyEmpty : is_empty line ≡ true → MAX_EMPTY_LINES ≤ empty_at_end before → IsBad types ty before line

-- none of the lines is bad behind those before it
abbrev pub NoneBad : Types → Ty → List (List ℕ) → Type 0
NoneBad types ty lines =
    (place : ℕ) (line : List ℕ) → slice_get lines place ≡ Some line → IsBad types ty (take place lines) line → ⊥

-- the line is the text of a value of the type
pub record HoldsValue (types : Types) (ty : Ty) (line : List ℕ) (value : Value) : Type 0 where
  pub typed : is_value types ty value ≡ true
  pub text : IsTextOf types ty (without_return line) value

-- The lines are not bad, and those that aren't empty hold these values, in order.
pub record HoldValues (types : Types) (ty : Ty) (lines : List (List ℕ)) (values : List Value) : Type 0 where
  pub none_bad : NoneBad types ty lines
  pub texts : AllZip (HoldsValue types ty) (filter (λ line. not (is_empty line)) lines) values

-- The first of the other lines is the first bad one, which then has that number, counted from 1; or there are no others.
abbrev pub IsFirstBad : Types → Ty → List (List ℕ) → List (List ℕ) → Option ℕ → Type 0
IsFirstBad types ty before [] bad = bad ≡ None
IsFirstBad types ty before (line ∷ lines) bad = IsBad types ty before line × (bad ≡ Some (length before + 1))

-- The lines of a text before the first bad one hold these values, and that is the number of the first bad one, if any is bad.
pub record IsGoodUntil (types : Types) (ty : Ty) (text : List ℕ) (good : List Value) (bad : Option ℕ) : Type 0 where
  pub before : List (List ℕ)
  pub others : List (List ℕ)
  pub split : lines_of text ≡ before ++ others
  pub values : HoldValues types ty before good
  pub first_bad : IsFirstBad types ty before others bad
