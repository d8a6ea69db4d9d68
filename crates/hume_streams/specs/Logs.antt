-- What a log of values for an output stream holds, and how it is drained.
use Rattle.std.specs.Prelude.{◌≡◌, ℕ, List, [], ◌∷◌, ◌++◌, take, slice_get, Some, Result, Ok, Err}
use Rattle.std.specs.List.{AllZip}
use Rattle.hume_base.specs.declared.types.Ty.{Ty}
use Rattle.hume_base.specs.declared.types.Types.{Types}
use Rattle.hume_base.specs.declared.types.Value.{Value}
use Rattle.hume_text.specs.Printed.{texts, AreWordsOf}
use Rattle.hume_ports.specs.declared.port.Failed.{Failed}
use Rattle.hume_ports.specs.Port.{PortView, IsWrite}
use Rattle.hume_streams.specs.declared.log.OutLog.{OutLog}
use Rattle.hume_streams.specs.Contents.{rows_in}

pub record LogView : Type 0 where
  -- the words of the values that it holds
  pub values : List (List ℕ)
  -- how many words a value has, and how many values there is room for
  pub width : ℕ
  pub span : ℕ

-- what a log holds
abbrev pub log_view : OutLog → LogView
log_view log = record { values = rows_in log.rows; width = log.rows.width; span = log.rows.span }

-- the line of a value: its text and a newline
abbrev pub line_of : Types → Ty → Value → List ℕ
line_of types ty value = texts types ty value ++ 10 ∷ []

-- of words that are those of a value it is the line of that value
abbrev pub IsLineOf : Types → Ty → List ℕ → List ℕ → Type 0
IsLineOf types ty words line = (value : Value) → AreWordsOf types ty words value → line ≡ line_of types ty value

-- Each of the lines was written, in order, by a write of its own.
abbrev pub WritesEach : PortView → PortView → List (List ℕ) → Type 0
WritesEach before after [] = after ≡ before
WritesEach before after (line ∷ lines) = (mid : PortView) × IsWrite before mid (Ok tt) line × WritesEach mid after lines

-- The lines of so many values were written so, and then the write of the next one's line failed.
pub record FailsAmong (types : Types) (ty : Ty) (values : List (List ℕ)) (before after : PortView) : Type 0 where
  pub count : ℕ
  pub lines : List (List ℕ)
  pub each : AllZip (IsLineOf types ty) (take count values) lines
  pub mid : PortView
  pub written : WritesEach before mid lines
  pub words : List ℕ
  pub next : slice_get values count ≡ Some words
  pub line : List ℕ
  pub is_line : IsLineOf types ty words line
  pub error : Failed
  pub failed : IsWrite mid after (Err error) line

-- The line of each value was written so, or the write of one failed.
abbrev pub DrainsTo : Types → Ty → List (List ℕ) → PortView → PortView → Result (Unit {0}) Failed → Type 0
DrainsTo types ty values before after (Ok _) = (lines : List (List ℕ)) × AllZip (IsLineOf types ty) values lines × WritesEach before after lines
DrainsTo types ty values before after (Err _) = FailsAmong types ty values before after
