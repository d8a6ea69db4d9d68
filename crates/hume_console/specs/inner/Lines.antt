-- Where a session stands once its next line was read.
use Rattle.std.specs.Prelude.{ℕ, ◌+◌, ◌*◌, ◌<◌, ◌≤◌, List, length, take, drop, Result, Ok, Err}
use Rattle.hume_ports.specs.declared.port.Failed.{Failed}
use Rattle.hume_console.specs.declared.command_lines.Next.{Next}
use Rattle.hume_console.specs.declared.command_lines.Next.TheVariants.{Line, TooLong, End}
use Rattle.hume_console.specs.declared.ending.Ending.TheVariants.{Done, Fault}
use Rattle.hume_console.specs.declared.session.Session.{Session as Served}
use Rattle.hume_console.specs.declared.session.TheConstants.{MAX_COMMANDS}
use Rattle.hume_console.specs.Commands.{command_of}
use Rattle.hume_console.specs.Hands.{Hands}
use Rattle.hume_console.specs.inner.Answering.{HasTaken, StandsClosed, later_lines, left_asked, left_bad_command}
use Rattle.hume_console.specs.inner.CommandBuffers.{unread_in}
use Rattle.hume_console.specs.inner.Standing.{Bindings, Call, Commands, EndsCall, GoesOn, Stands}

-- The line of that number stands at the front of the unread bytes and has so many bytes. What it asks for is left to do, and then the
-- lines behind it.
pub record StandsBeforeLine (call : Call) (number count : ℕ) (session : Served) (now : Hands) : Type 0 where
  pub bytes : List ℕ
  pub bindings : Bindings
  pub within : count ≤ length (unread_in session.lines)
  pub stands : Stands call (64 * number)
      (left_asked call number (command_of (take count (unread_in session.lines))) (later_lines call (number + 1) (drop (count + 1) (unread_in session.lines))))
      session.engine (record { bytes = bytes; ended = session.lines.ended }) session.places now bindings
  pub taken : HasTaken bytes session.lines.ended (drop (count + 1) (unread_in session.lines)) (number + 1)

-- The line of that number is bad, which is left to tell.
pub record StandsBad (call : Call) (number : ℕ) (session : Served) (now : Hands) : Type 0 where
  pub limit : ℕ
  pub commands : Commands
  pub goes : GoesOn call limit (left_bad_command call number) session.engine commands session.places now

-- a line is bad if it is one too many
pub record StandsByNumber (call : Call) (number count : ℕ) (session : Served) (now : Hands) : Type 0 where
  pub few : number ≤ MAX_COMMANDS → StandsBeforeLine call number count session now
  pub many : MAX_COMMANDS < number → StandsBad call number session now

abbrev pub EndsNext : Call → ℕ → Served → Hands → Result Next Failed → Type 0
EndsNext call number session now (Ok (Line count)) = StandsByNumber call number count session now
EndsNext call number session now (Ok TooLong) = StandsBad call number session now
EndsNext call number session now (Ok End) = StandsClosed call Done session now
EndsNext call number session now (Err failed) = EndsCall call now Fault
