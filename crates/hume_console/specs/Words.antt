-- The words of a session: `WORKERS SOURCE PORT..`.
use Rattle.std.specs.Prelude.{ℕ, Bool, ◌&&◌, ◌||◌, List, ◌∷◌, Option, None, Some, if◌then◌else◌, nat_le, codes}
use Rattle.std.specs.Str.{bytes_eq}
use Rattle.hume_base.specs.declared.limits.TheConstants.{MAX_WORKERS}
use Rattle.hume_calls.specs.Words.{number_of}
use Rattle.run_rounds.specs.Streams.{std_out}
use Rattle.hume_console.specs.declared.words.Opening.{Opening}

-- the port of the commands
abbrev pub std_in : List ℕ
std_in = codes "std_in"

-- whether the port of the name is always there, and no source's
abbrev pub is_standard : List ℕ → Bool
is_standard name = bytes_eq name std_in || bytes_eq name std_out

-- one or more workers, and not too many
abbrev pub workers_in : Option ℕ → Option ℕ
workers_in None = None
workers_in (Some workers) = if nat_le 1 workers && nat_le workers MAX_WORKERS then Some workers else None

-- the number of workers that a word writes, if it is one
abbrev pub workers_of : List ℕ → Option ℕ
workers_of word = workers_in (number_of word)

-- a session on so many workers; the source's name is the word behind them
abbrev pub opening_on : Option ℕ → Option Opening
opening_on None = None
opening_on (Some workers) = Some (record { workers = workers; source = 1 })

-- what the words ask for, if they have the form
abbrev pub opening_of : List (List ℕ) → Option Opening
opening_of (workers ∷ source ∷ ports) = if is_standard source then None else opening_on (workers_of workers)
opening_of _ = None
