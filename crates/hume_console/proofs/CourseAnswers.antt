-- A session never ends as words without a form do.
use Rattle.std.proofs.Common.{◌≡◌, ℕ, ◌+◌, Bool, true, false, List, [], ◌∷◌, ◌++◌, length, sym, ◌∙◌, inl, inr, Option, None, Some, if◌then◌else◌}
use Rattle.std.specs.Prelude.{slice_get}
use Rattle.std.specs.Option.{unwrap_or}
use Rattle.hume_model.specs.declared.core_tree.Core.{Core}
use Rattle.hume_net.specs.Sides.{on_wire, part_of}
use Rattle.hume_ports.specs.Delivery.{Pairs}
use Rattle.port_acts.specs.Acts.{Act, wants, write_each}
use Rattle.port_acts.specs.Early.{read_each}
use Rattle.hume_calls.specs.Owed.{table_writes}
use Rattle.hume_calls.specs.Reading.{source_reads}
use Rattle.hume_streams.specs.Lines.{lines_of}
use Rattle.run_rounds.specs.Streams.{std_out}
use Rattle.trace_print.specs.InTurn.{lines_to}
use Rattle.trace_print.specs.TraceLines.{peak_lines, wire_lines}
use Rattle.run_rounds.specs.Writes.{bad_value_line, name_of}
use Rattle.hume_console.specs.declared.ending.Ending.{Ending}
use Rattle.hume_console.specs.declared.ending.Ending.TheVariants.{BadValue, Done, Fault, Usage}
use Rattle.hume_console.specs.Words.{std_in}
use Rattle.hume_console.specs.Commands.{Command, Step, Wires, Peaks, Exchange, End, command_of, is_bad_line, no_command_line, no_exchange_line}
use Rattle.hume_console.specs.Courses.{Bound, Course, ends, leaves, first_do, kept, EndsCourse}
use Rattle.hume_console.specs.Hands.{Hands}
use Rattle.hume_console.specs.Headline.{session_few}
use Rattle.hume_console.specs.Serving.{answered, closed, exchange_acts, exchange_course, served, step_course, step_lines, step_wants, tells}
use Rattle.hume_console.specs.Session.{Session, Supplies, after_steps, blocked_by, exchanged, first_session, may_exchange, place_at, stepped, supply_of, stream_named, text_of}
use Rattle.hume_console.specs.inner.Standing.{Call, EndsCall, owed_by}
use Rattle.port_acts.specs.Ends.{Few}

-- the course's answer isn't that words have no form
abbrev Answers : Course → Type 0
Answers (ends bound acts answer) = answer ≡ Usage → ⊥
Answers (leaves bound acts at later) = Answers later

first_answers : (acts : List Act) (course : Course) → Answers course → Answers (first_do acts course)
first_answers acts (ends bound others answer) is = is
first_answers acts (leaves bound others at later) is = is

course_answers : (few : Bound → Few) (course : Course) (earlier : Pairs) (old new : Hands) (ending : Ending) → Answers course
    → EndsCourse few earlier course old new ending → ending ≡ Usage → ⊥
course_answers few (ends bound acts answer) earlier old new ending is (inl done) same = is (sym done.0 ∙ same)
course_answers few (ends bound acts answer) earlier old new ending is (inr failed) same = let no : Fault ≡ Usage = sym failed.0 ∙ same in cc
course_answers few (leaves bound acts at later) earlier old new ending is (inl gone) same =
    course_answers few later (kept earlier gone.1) gone.0 new ending is gone.2 same
course_answers few (leaves bound acts at later) earlier old new ending is (inr failed) same = let no : Fault ≡ Usage = sym failed.0 ∙ same in cc

module _ (core : Core) (supplies : Supplies) (source : List ℕ) where
  closed_done : (session : Session) → Answers (closed core session Done)
  closed_done session same = cc

  closed_bad : (session : Session) → Answers (closed core session BadValue)
  closed_bad session same = cc

  step_answers : (session : Session) (steps : ℕ) (blocked : Option ℕ) (later : Session → Course) → ((next : Session) → Answers (later next))
      → Answers (step_course core supplies session steps blocked later)
  step_answers session steps None later is =
      first_answers (step_wants core session steps (length core.nodes)
      ++ write_each (step_lines core session (λ n. (part_of (after_steps core supplies session steps) n).taken)))
      (later (stepped core supplies session steps)) (is (stepped core supplies session steps))
  step_answers session steps (Some n) later is =
      first_answers (step_wants core session steps (n + 1)
      ++ tells (bad_value_line (name_of (slice_get core.nodes n)) (unwrap_or (supply_of supplies session n).bad 0)))
      (closed core session BadValue) (closed_bad session)

  exchange_answers : (session : Session) (number : ℕ) (named : Option ℕ) (port : List ℕ) (later : Session → Course) → ((next : Session) → Answers (later next))
      → Answers (exchange_course core source session number named port later)
  exchange_answers session number None port later is = first_answers (tells (no_exchange_line number)) (later session) (is session)
  exchange_answers session number (Some n) port later is = by (may_exchange core source session n port)
    where
      by : (may : Bool) → Answers (if may
          then leaves session.port (exchange_acts session n (slice_get core.nodes n)) (place_at session n) (later (exchanged session n port))
          else first_do (tells (no_exchange_line number)) (later session))
      by true = is (exchanged session n port)
      by false = first_answers (tells (no_exchange_line number)) (later session) (is session)

  line_answers : (session : Session) (number : ℕ) (asked : Option Command) (later : Session → Course) → ((next : Session) → Answers (later next))
      → Answers (answered core supplies source session number asked later)
  line_answers session number None later is = first_answers (tells (no_command_line number)) (later session) (is session)
  line_answers session number (Some (Step steps)) later is = step_answers session steps (blocked_by core supplies session steps) later is
  line_answers session number (Some Wires) later is = first_answers (lines_to std_out (wire_lines core (on_wire session.net))) (later session) (is session)
  line_answers session number (Some Peaks) later is = first_answers (lines_to std_out (peak_lines core session.peaks)) (later session) (is session)
  line_answers session number (Some (Exchange stream port)) later is = exchange_answers session number (stream_named core stream) port later is
  line_answers session number (Some End) later is = closed_done session

  good_or_bad : (session : Session) (number : ℕ) (line : List ℕ) (later : Session → Course) → ((next : Session) → Answers (later next)) → (bad : Bool)
      → Answers (if bad then first_do (tells (bad_value_line std_in number)) (closed core session BadValue)
      else answered core supplies source session number (command_of line) later)
  good_or_bad session number line later is true = first_answers (tells (bad_value_line std_in number)) (closed core session BadValue) (closed_bad session)
  good_or_bad session number line later is false = line_answers session number (command_of line) later is

  -- what is answered to a line, and what comes later
  abbrev behind_line : Session → ℕ → List ℕ → (Session → Course) → Course
  behind_line session number line later = if is_bad_line number line then first_do (tells (bad_value_line std_in number)) (closed core session BadValue)
      else answered core supplies source session number (command_of line) later

  lines_answer : (lines : List (List ℕ)) (session : Session) (number : ℕ) → Answers (served core supplies source session number lines)
  unfolding served
  lines_answer [] session number = first_answers (wants std_in number ∷ []) (closed core session Done) (closed_done session)
  lines_answer (line ∷ lines) session number =
      first_answers (wants std_in number ∷ []) (behind_line session number line (λ next. served core supplies source next (number + 1) lines))
      (good_or_bad session number line (λ next. served core supplies source next (number + 1) lines) (λ next. lines_answer lines next (number + 1))
      (is_bad_line number line))

-- a session that is served answers otherwise
pub served_answers : (call : Call) (new : Hands) (ending : Ending) → EndsCall call new ending → ending ≡ Usage → ⊥
served_answers call new ending e =
    let course : Course = served call.core call.supplies call.source (first_session call.core e.offers) 1 (lines_of (text_of std_in e.offers)) in
    course_answers (session_few call.source call.text) (owed_by call e.offers) [] call.first new ending
    (first_answers (read_each (source_reads call.source)) (first_do (write_each (table_writes call.core)) course)
    (first_answers (write_each (table_writes call.core)) course
    (lines_answer call.core call.supplies call.source (lines_of (text_of std_in e.offers)) (first_session call.core e.offers) 1))) e.ends
