-- The lines of commands: `step N`, `wires`, `peaks`, `exchange STREAM PORT` and `end`.
use Rattle.std.specs.Prelude.{ℕ, ◌+◌, ◌==◌, Bool, ◌&&◌, ◌||◌, List, [], ◌∷◌, ◌++◌, length, take, drop, Option, None, Some, if◌then◌else◌, nat_le, nat_lt, codes, decimal}
use Rattle.std.specs.List.{position}
use Rattle.std.specs.Str.{bytes_eq}
use Rattle.run_rounds.specs.declared.rounds.TheConstants.{SPAN}
use Rattle.hume_calls.specs.Words.{number_of}
use Rattle.hume_console.specs.declared.command_lines.TheConstants.{MAX_COMMAND_BYTES}
use Rattle.hume_console.specs.declared.session.TheConstants.{MAX_COMMANDS}

-- What a line may ask for.
pub data Command : Type 0 where
  -- make that many supersteps
  Step : (steps : ℕ) → Command
  -- tell what is on each wire
  Wires : Command
  -- tell what each box took at most
  Peaks : Command
  -- let the stream of a name go on with the port of a name
  Exchange : (stream port : List ℕ) → Command
  -- end the session
  End : Command

-- what stands in a line behind that word and a space, if the line begins with them
abbrev pub behind : List ℕ → List ℕ → Option (List ℕ)
behind word line = if bytes_eq (take (length word + 1) line) (word ++ 32 ∷ []) then Some (drop (length word + 1) line) else None

-- a step of at least one superstep, and of no more than a round has
abbrev pub step_of : Option ℕ → Option Command
step_of None = None
step_of (Some steps) = if nat_le 1 steps && nat_le steps SPAN then Some (Step steps) else None

-- an exchange, of two names that aren't empty
abbrev pub exchange_of : List ℕ → List ℕ → Option Command
exchange_of stream port = if (length stream == 0) || (length port == 0) then None else Some (Exchange stream port)

-- whether a byte is a space
abbrev pub is_space : ℕ → Bool
is_space byte = byte == 32

-- the name of a stream ends at the first space, and all behind it is the name of a port
abbrev pub exchange_at : List ℕ → Option ℕ → Option Command
exchange_at names None = None
exchange_at names (Some space) = exchange_of (take space names) (drop (space + 1) names)

-- what a line asks for that begins with neither word; with `exchange`; and with `step`
abbrev pub exchange_in : Option (List ℕ) → Option Command
exchange_in None = None
exchange_in (Some names) = exchange_at names (position is_space names)

abbrev pub step_in : List ℕ → Option (List ℕ) → Option Command
step_in line None = exchange_in (behind (codes "exchange") line)
step_in line (Some number) = step_of (number_of number)

-- what a line asks for, if it has a form
abbrev pub command_of : List ℕ → Option Command
command_of line =
    if bytes_eq line (codes "wires") then Some Wires
    else if bytes_eq line (codes "peaks") then Some Peaks
    else if bytes_eq line (codes "end") then Some End
    else step_in line (behind (codes "step") line)

-- a line that is too long, or one too many by its number, counted from 1
abbrev pub is_bad_line : ℕ → List ℕ → Bool
is_bad_line number line = nat_lt MAX_COMMANDS number || nat_lt MAX_COMMAND_BYTES (length line)

-- no command line LINE
abbrev pub no_command_line : ℕ → List ℕ
no_command_line number = codes "no command line " ++ decimal number ++ 10 ∷ []

-- no exchange line LINE
abbrev pub no_exchange_line : ℕ → List ℕ
no_exchange_line number = codes "no exchange line " ++ decimal number ++ 10 ∷ []
