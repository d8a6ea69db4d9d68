-- How a session goes on line by line.
use Rattle.std.specs.Prelude.{◌≡◌, ℕ, Bool, true, [], ◌+◌, ◌*◌, ◌≤◌, ◌<◌, ◌^◌, List, ◌++◌, length, Option, Some, Result, Ok, Err}
use Rattle.hume_ports.specs.declared.port.Failed.{Failed}
use Rattle.hume_text.specs.declared.chunk.Chunk.{Chunk}
use Rattle.hume_text.specs.Chunks.{room_of}
use Rattle.hume_streams.specs.Lines.{lines_of}
use Rattle.phase_workers.specs.Engines.{EngineView as Engine}
use Rattle.phase_workers.specs.Engines.{core_of}
use Rattle.run_rounds.specs.declared.rounds.TheConstants.{SPAN}
use Rattle.run_rounds.specs.Writes.{bad_value_line}
use Rattle.trace_print.specs.Rooms.{line_room}
use Rattle.hume_console.specs.declared.ending.Ending.{Ending}
use Rattle.hume_console.specs.declared.ending.Ending.TheVariants.{BadValue, Fault}
use Rattle.hume_console.specs.declared.places.Places.{Places}
use Rattle.hume_console.specs.declared.answering.Turn.{Turn}
use Rattle.hume_console.specs.declared.answering.Turn.TheVariants.{Continues, Ends}
use Rattle.hume_console.specs.declared.session.Session.{Session as Served}
use Rattle.hume_console.specs.Words.{std_in}
use Rattle.hume_console.specs.Commands.{Command, Step}
use Rattle.hume_console.specs.Courses.{Course, first_do}
use Rattle.hume_console.specs.Hands.{Hands}
use Rattle.hume_console.specs.Serving.{answered, closed, served, tells}
use Rattle.hume_console.specs.Session.{Session}
use Rattle.hume_console.specs.inner.CommandBuffers.{unread_in}
use Rattle.hume_console.specs.inner.Exchanging.{left_later}
use Rattle.hume_console.specs.inner.Standing.{BeginsAsItIs, Bindings, Call, Commands, EndsCall, GoesOn, Later, Stands}

-- what this asks for is left to do, and then the rest
abbrev pub left_asked : Call → ℕ → Option Command → Later → Session → List ℕ → Course
left_asked call number asked later session rest = answered call.core call.supplies call.source session number asked (later rest)

-- it is left to finish the ports, and to give this answer
abbrev pub left_closed : Call → Ending → Session → List ℕ → Course
left_closed call answer session rest = closed call.core session answer

-- it is left to tell that the line of that number is bad, and to end
abbrev pub left_bad_command : Call → ℕ → Session → List ℕ → Course
left_bad_command call number session rest = first_do (tells (bad_value_line std_in number)) (closed call.core session BadValue)

-- the lines from that number on are left to answer, of which these bytes were read
abbrev pub left_lines : Call → ℕ → List ℕ → Session → List ℕ → Course
left_lines call number unread session rest = served call.core call.supplies call.source session number (lines_of (unread ++ rest))

-- the same by the rest and the session
abbrev pub later_lines : Call → ℕ → List ℕ → Later
later_lines call number unread rest session = left_lines call number unread session rest

-- No step is longer than a round.
abbrev pub IsShort : Option Command → Type 0
IsShort asked = (steps : ℕ) → asked ≡ Some (Step steps) → steps ≤ SPAN

-- The session goes on after a line, or it ends with an answer, or an act failed.
abbrev pub EndsAnswer : Call → ℕ → Later → Engine → Commands → Places → Hands → Result Turn Failed → Type 0
EndsAnswer call limit later engine commands places now (Ok Continues) = GoesOn call limit (left_later later) engine commands places now
EndsAnswer call limit later engine commands places now (Ok (Ends ending)) = GoesOn call limit (left_closed call ending) engine commands places now
EndsAnswer call limit later engine commands places now (Err failed) = EndsCall call now Fault

-- There is room for each line of a value, of a wire, and of any other kind.
pub record HasRooms (engine : Engine) (chunk : Chunk) : Type 0 where
  pub values : 512 * 1024 < room_of chunk
  pub lines : line_room (core_of engine) ≤ room_of chunk
  pub others : 160 ≤ room_of chunk

-- Of these bytes the lines before the next one, which has this number, were taken, and these bytes are unread.
pub record HasTaken (bytes : List ℕ) (ended : Bool) (unread : List ℕ) (number : ℕ) : Type 0 where
  pub gone : List (List ℕ)
  pub count : length gone + 1 ≡ number
  pub split : (rest : List ℕ) → (ended ≡ true → rest ≡ []) → lines_of (bytes ++ rest) ≡ gone ++ lines_of (unread ++ rest)

-- A line that is to be answered: for which call, how many values a port may have brought, what is left to do behind it, what was read of
-- the commands, and the bindings.
pub record Moment : Type 0 where
  pub call : Call
  pub limit : ℕ
  pub later : Later
  pub commands : Commands
  pub bindings : Bindings

-- The call stands there with this left to do, over these ports.
pub record IsMoment (moment : Moment) (left : Session → List ℕ → Course) (engine : Engine) (places : Places) (now : Hands) : Type 0 where
  pub begins : BeginsAsItIs moment.later
  pub most : moment.limit + 64 ≤ 2000000000
  pub stands : Stands moment.call moment.limit left engine moment.commands places now moment.bindings

-- the turn that a line is told
abbrev pub turn_of : Result (Unit {0}) Failed → Result Turn Failed
turn_of (Ok done) = Ok Continues
turn_of (Err failed) = Err failed

-- The session has come to the line of that number: those before it were answered.
pub record StandsAt (call : Call) (number : ℕ) (session : Served) (now : Hands) : Type 0 where
  pub bytes : List ℕ
  pub bindings : Bindings
  pub stands : Stands call (64 * number) (left_lines call number (unread_in session.lines)) session.engine
      (record { bytes = bytes; ended = session.lines.ended }) session.places now bindings
  pub taken : HasTaken bytes session.lines.ended (unread_in session.lines) number

-- The session has come to its end with that answer.
pub record StandsClosed (call : Call) (ending : Ending) (session : Served) (now : Hands) : Type 0 where
  pub limit : ℕ
  pub commands : Commands
  pub closes : GoesOn call limit (left_closed call ending) session.engine commands session.places now

abbrev pub EndsLine : Call → ℕ → Served → Hands → Result Turn Failed → Type 0
EndsLine call number session now (Ok Continues) = StandsAt call (number + 1) session now
EndsLine call number session now (Ok (Ends ending)) = StandsClosed call ending session now
EndsLine call number session now (Err failed) = EndsCall call now Fault

abbrev pub EndsLines : Call → Served → Hands → Result Ending Failed → Type 0
EndsLines call session now (Ok ending) = StandsClosed call ending session now
EndsLines call session now (Err failed) = EndsCall call now Fault

-- A session has no more workers than a round takes, and room for each line.
pub record IsRoomy (session : Served) : Type 0 where
  pub workers : session.workers ≤ 2 ^ 16
  pub rooms : HasRooms session.engine session.chunk
