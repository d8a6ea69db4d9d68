-- Which calls of a port in memory fail, and what it tells of its room.
use Rattle.std.specs.Prelude.{◌==◌, if◌then◌else◌, ℕ, ◌-◌, List, [], ◌∷◌, length, take, Option, None, Some}
use Rattle.hume_ports.specs.declared.memory.Fail.{Fail}
use Rattle.hume_ports.specs.Port.{next_count}

-- the room, where no call is listed to fail
abbrev pub told_room : {F : Type 0} → List F → ℕ → Option ℕ
told_room [] room = Some room
told_room (first ∷ others) room = None

-- how many bytes the call with that number may take, if it is listed to fail; the first of two lines counts
abbrev pub listed : ℕ → List Fail → Option ℕ
listed call [] = None
listed call (first ∷ others) = if first.call == call then Some first.taken else listed call others

-- what decides how the calls of a port in memory go
pub record Script : Type 0 where
  -- how many calls were made
  pub calls : ℕ
  -- how many bytes a read gives at most
  pub piece : ℕ
  -- how many bytes may be written in all
  pub room : ℕ
  -- which calls fail
  pub failing : List Fail

-- one call more was made
abbrev pub counted : Script → Script
counted script = record script { calls = next_count script.calls }

-- how many bytes the last call may take, if it is listed to fail
abbrev pub due : Script → Option ℕ
due script = listed script.calls script.failing

-- the front of the bytes of a write that is let through: all, or as many as is said where it is to fail
abbrev pub let_through : Option ℕ → List ℕ → List ℕ
let_through None bytes = bytes
let_through (Some taken) bytes = take taken bytes

-- what the last write appends to the output: the bytes that are let through, as far as they fit
abbrev pub accepted : Script → List ℕ → List ℕ → List ℕ
accepted script output bytes = take (script.room - length output) (let_through (due script) bytes)
