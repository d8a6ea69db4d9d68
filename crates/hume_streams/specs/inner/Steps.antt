-- What the reading of one line does to a queue.
use Rattle.std.specs.Prelude.{◌≡◌, ℕ, ◌+◌, ◌<◌, ◌≤◌, ◌⊎◌, true, false, List, [], ◌∷◌, ◌++◌, drop}
use Rattle.hume_base.specs.declared.limits.TheConstants.{MAX_EMPTY_LINES}
use Rattle.hume_base.specs.declared.types.Ty.{Ty}
use Rattle.hume_base.specs.declared.types.Types.{Types}
use Rattle.hume_base.specs.declared.types.Value.{Value}
use Rattle.hume_base.specs.Flat.{flat}
use Rattle.hume_ports.specs.Port.{next_count}
use Rattle.hume_text.specs.Read.{IsReadable}
use Rattle.hume_streams.specs.Lines.{is_empty, without_return}
use Rattle.hume_streams.specs.Good.{HoldsValue}
use Rattle.hume_streams.specs.Queues.{QueueView}

-- an empty line more
pub record IsEmptyStep (line : List ℕ) (old new : QueueView) : Type 0 where
  pub empty : is_empty line ≡ true
  pub few : old.empty < MAX_EMPTY_LINES
  pub row : new.empty ≡ old.empty + 1
  pub values : new.values ≡ old.values

-- a value more
pub record IsValueStep (types : Types) (ty : Ty) (line : List ℕ) (old new : QueueView) : Type 0 where
  pub filled : is_empty line ≡ false
  pub value : Value
  pub holds : HoldsValue types ty line value
  pub row : new.empty ≡ 0
  pub values : new.values ≡ old.values ++ flat types ty value ∷ []

-- the line, of so many bytes, was read
pub record IsStep (types : Types) (ty : Ty) (count : ℕ) (line : List ℕ) (old new : QueueView) : Type 0 where
  pub unread : new.unread ≡ drop (count + 1) old.unread
  pub lines : new.lines ≡ next_count old.lines
  pub width : new.width ≡ old.width
  pub span : new.span ≡ old.span
  pub ended : new.ended ≡ old.ended
  pub step : IsEmptyStep line old new ⊎ IsValueStep types ty line old new

-- the line can't be read
abbrev pub IsRefused : Types → Ty → List ℕ → QueueView → Type 0
IsRefused types ty line queue =
    ((is_empty line ≡ true) × (MAX_EMPTY_LINES ≤ queue.empty)) ⊎ ((is_empty line ≡ false) × (IsReadable types ty (without_return line) → ⊥))
