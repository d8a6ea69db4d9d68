-- The line at the front is answered, and taken.
use Rattle.std.proofs.Common.{◌≡◌, ℕ, ◌+◌, ◌*◌, ◌≤◌, List, take, drop, ap, sym, ◌∙◌, subst, Option, Result, Err}
use Rattle.hume_ports.specs.declared.port.Failed.{Failed}
use Rattle.hume_console.specs.declared.answering.Turn.{Turn}
use Rattle.hume_console.specs.declared.session.Session.{Session as Served}
use Rattle.hume_console.specs.declared.session.TheConstants.{MAX_COMMANDS}
use Rattle.hume_console.specs.Commands.{Command, command_of}
use Rattle.hume_console.specs.Hands.{Hands}
use Rattle.hume_console.specs.inner.Answering.{EndsAnswer, EndsLine, IsMoment, IsShort, Moment, left_asked}
use Rattle.hume_console.specs.inner.CommandBuffers.{unread_in}
use Rattle.hume_console.specs.inner.Lines.{StandsBeforeLine}
use Rattle.hume_console.specs.inner.Standing.{Call, EndsCall}
use Rattle.phase_workers.specs.Engines.{EngineView as Engine}
use Rattle.hume_console.specs.declared.places.Places.{Places}
use Rattle.hume_console.specs.declared.ending.Ending.TheVariants.{Fault}
use Rattle.hume_console.proofs.LinesAnswered.{asked_as}
use Rattle.hume_console.proofs.SessionLines.{is_moment, its_moment, line_answered, short_steps}

-- the bytes of the line, read another way
pub front_as : (unread line : List ℕ) (count : ℕ) (asked : Option Command) → unread ≡ line → asked ≡ command_of (take count unread) → asked ≡ command_of (take count line)
front_as unread line count asked same is = is ∙ ap (λ bs. command_of (take count bs)) same

pub short_asked : (line : List ℕ) (asked : Option Command) → asked ≡ command_of line → IsShort asked
short_asked line asked is steps found = short_steps line steps (sym is ∙ found)

module _ (call : Call) (number count : ℕ) (session : Served) (now : Hands) (at : StandsBeforeLine call number count session now) (least : number ≤ MAX_COMMANDS)
    (asked : Option Command) (is : asked ≡ command_of (take count (unread_in session.lines))) where
  abbrev pub its : Moment
  its = its_moment call number count session now at least

  pub asked_moment : IsMoment its (left_asked call number asked its.later) session.engine session.places now
  asked_moment = asked_as its number (command_of (take count (unread_in session.lines))) asked session.engine session.places now (sym is)
      (is_moment call number count session now at least)

  pub line_done : (new : Served) (later : Hands) → unread_in new.lines ≡ drop (count + 1) (unread_in session.lines) → new.lines.ended ≡ session.lines.ended
      → (result other : Result Turn Failed) → result ≡ other
      → EndsAnswer call (64 * number + 64) its.later new.engine its.commands new.places later result → EndsLine call number new later other
  line_done new later unread ended result other same ends =
      line_answered call number count session now at least new later unread ended other
      (subst (EndsAnswer call (64 * number + 64) its.later new.engine its.commands new.places later) same ends)

  pub line_failed : (engine : Engine) (places : Places) (later : Hands) (result : Result Turn Failed) (failed : Failed) → result ≡ Err failed
      → EndsAnswer call (64 * number + 64) its.later engine its.commands places later result → EndsCall call later Fault
  line_failed engine places later result failed same ends = subst (EndsAnswer call (64 * number + 64) its.later engine its.commands places later) same ends
