-- The lines of a session, one after another.
use Rattle.std.proofs.Common.{◌≡◌, ℕ, ◌+◌, ◌*◌, ◌<◌, ◌≤◌, nat_lt, Bool, true, false, ◌||◌, if◌then◌else◌, List, [], ◌∷◌, ◌++◌, length, map, take, drop, refl, ap, sym, ◌∙◌, subst, inl, inr, append_assoc, arith, Option, None, Some, Result, Ok, Err}
use Rattle.std.specs.Prelude.{◌==◌, ◌&&◌, OnErr, OnOk, IfOk, codes, nat_le, slice_get}
use Rattle.std.specs.List.{position}
use Rattle.std.specs.Str.{bytes_eq}
use Rattle.std.proofs.lemmas.Bool.{cases_Bool, leb-true, lt-ltb, ltb-true, true≢false}
use Rattle.std.proofs.lemmas.List.{length-map}
use Rattle.hume_model.specs.declared.core_tree.NodeC.TheVariants.{From}
use Rattle.hume_model.specs.declared.core_tree.Core.{Core}
use Rattle.hume_ports.specs.declared.port.Failed.{Failed}
use Rattle.hume_ports.specs.Port.{PortView}
use Rattle.hume_ports.specs.Ports.{names, ForNameAt}
use Rattle.hume_ports.specs.Delivery.{Pairs, bytes_for}
use Rattle.hume_ports.proofs.Names.{bytes_for-append, same_name}
use Rattle.hume_calls.specs.Words.{number_of}
use Rattle.hume_calls.proofs.FitPorts.{found_place}
use Rattle.hume_streams.specs.Lines.{lines_of, whole_lines}
use Rattle.port_acts.specs.Acts.{Act, wants, write_each}
use Rattle.port_acts.specs.Ends.{Made}
use Rattle.hume_net.specs.Sides.{on_wire, part_of}
use Rattle.trace_print.specs.InTurn.{lines_to}
use Rattle.trace_print.specs.TraceLines.{peak_lines, wire_lines}
use Rattle.run_rounds.specs.Streams.{std_out}
use Rattle.run_rounds.specs.Writes.{bad_value_line}
use Rattle.run_rounds.specs.declared.rounds.TheConstants.{SPAN}
use Rattle.hume_console.specs.declared.answering.Turn.{Turn}
use Rattle.hume_console.specs.declared.answering.Turn.TheVariants.{Continues, Ends as EndsWith}
use Rattle.hume_console.specs.declared.command_lines.CommandLines.{CommandLines}
use Rattle.hume_console.specs.declared.command_lines.Next.{Next}
use Rattle.hume_console.specs.declared.command_lines.Next.TheVariants.{Line, TooLong, End}
use Rattle.hume_console.specs.declared.command_lines.TheConstants.{MAX_COMMAND_BYTES}
use Rattle.hume_console.specs.declared.ending.Ending.TheVariants.{BadValue, Done, Fault}
use Rattle.hume_console.specs.declared.session.Session.{Session as Served}
use Rattle.hume_console.specs.declared.session.TheConstants.{MAX_COMMANDS}
use Rattle.hume_console.specs.Words.{std_in}
use Rattle.hume_console.specs.Commands.{Command, Step, Wires, Peaks, Exchange, End as EndAsked, behind, command_of, exchange_at, exchange_in, is_bad_line, is_space, no_command_line, no_exchange_line, step_in, step_of}
use Rattle.hume_console.specs.Courses.{Course, first_do, leaves}
use Rattle.hume_console.specs.inner.Bounds.{bound_of}
use Rattle.hume_console.specs.Hands.{Hands}
use Rattle.hume_console.specs.Serving.{answered, closed, exchange_acts, exchange_course, served, step_course, step_lines, step_wants, tells}
use Rattle.hume_console.specs.Session.{Session, Supplies, after_steps, blocked_by, exchanged, stepped, may_exchange, place_at, stream_named}
use Rattle.hume_console.specs.inner.Answering.{EndsAnswer, EndsLine, HasTaken, IsMoment, IsShort, Moment, StandsAt, later_lines, left_asked, left_bad_command, left_closed, left_lines}
use Rattle.hume_console.specs.inner.CommandBuffers.{unread_in, IsNext, ReadsOn, FailsReading}
use Rattle.hume_console.specs.inner.Lines.{EndsNext, StandsBad, StandsBeforeLine}
use Rattle.hume_console.specs.inner.Placed.{ArePlaced}
use Rattle.hume_console.specs.inner.Standing.{Bindings, Call, Commands, EndsCall, Stands, session_of}
use Rattle.hume_console.proofs.CommandLinesRead.{few_taken, taken_line, taken_more}
use Rattle.hume_console.proofs.CourseSteps.{bound_first}
use Rattle.hume_console.proofs.PortsLeft.{differ_eq}
use Rattle.hume_console.proofs.ReadOn.{AreOnlyOf}
use Rattle.hume_console.proofs.Standings.{hands_with, lines_fail, lines_read, no_stream_in, own_offers, own_placed, read_bindings}

-- the ports with which the course of lines begins

module _ (core : Core) (supplies : Supplies) (source : List ℕ) where
  step_bound : (session : Session) (steps : ℕ) (later : Session → Course) → ((next : Session) → bound_of (later next) ≡ next.port) → (blocked : Option ℕ)
      → bound_of (step_course core supplies session steps blocked later) ≡ session.port
  step_bound session steps later begins None =
      let acts : List Act = step_wants core session steps (length core.nodes)
      ++ write_each (step_lines core session (λ n. (part_of (after_steps core supplies session steps) n).taken)) in
      let next : Session = stepped core supplies session steps in
      bound_first acts (later next) ∙ begins next
  step_bound session steps later begins (Some n) = refl

  exchange_bound : (session : Session) (number : ℕ) (port : List ℕ) (later : Session → Course) → ((next : Session) → bound_of (later next) ≡ next.port)
      → (found : Option ℕ) → bound_of (exchange_course core source session number found port later) ≡ session.port
  exchange_bound session number port later begins None = bound_first (tells (no_exchange_line number)) (later session) ∙ begins session
  exchange_bound session number port later begins (Some n) = by (may_exchange core source session n port)
    where
      by : (may : Bool) → bound_of (if may
          then leaves session.port (exchange_acts session n (slice_get core.nodes n)) (place_at session n) (later (exchanged session n port))
          else first_do (tells (no_exchange_line number)) (later session)) ≡ session.port
      by true = refl
      by false = bound_first (tells (no_exchange_line number)) (later session) ∙ begins session

  pub answered_bound : (session : Session) (number : ℕ) (asked : Option Command) (later : Session → Course) → ((next : Session) → bound_of (later next) ≡ next.port)
      → bound_of (answered core supplies source session number asked later) ≡ session.port
  answered_bound session number None later begins = bound_first (tells (no_command_line number)) (later session) ∙ begins session
  answered_bound session number (Some (Step steps)) later begins = step_bound session steps later begins (blocked_by core supplies session steps)
  answered_bound session number (Some Wires) later begins = bound_first (lines_to std_out (wire_lines core (on_wire session.net))) (later session) ∙ begins session
  answered_bound session number (Some Peaks) later begins = bound_first (lines_to std_out (peak_lines core session.peaks)) (later session) ∙ begins session
  answered_bound session number (Some (Exchange stream port)) later begins = exchange_bound session number port later begins (stream_named core stream)
  answered_bound session number (Some EndAsked) later begins = refl

  line_bound : (session : Session) (number : ℕ) (line : List ℕ) (later : Session → Course) → ((next : Session) → bound_of (later next) ≡ next.port) → (bad : Bool)
      → bound_of (if bad then first_do (tells (bad_value_line std_in number)) (closed core session BadValue)
      else answered core supplies source session number (command_of line) later) ≡ session.port
  line_bound session number line later begins true = refl
  line_bound session number line later begins false = answered_bound session number (command_of line) later begins

  -- what is answered to a line, and what comes later
  abbrev behind_line : Session → ℕ → List ℕ → (Session → Course) → Course
  behind_line session number line later = if is_bad_line number line then first_do (tells (bad_value_line std_in number)) (closed core session BadValue)
      else answered core supplies source session number (command_of line) later

  pub served_bound : (session : Session) (number : ℕ) (lines : List (List ℕ)) → bound_of (served core supplies source session number lines) ≡ session.port
  unfolding served
  served_bound session number [] = refl
  served_bound session number (line ∷ lines) =
      bound_first (wants std_in number ∷ []) (behind_line session number line (λ next. served core supplies source next (number + 1) lines))
      ∙ line_bound session number line (λ next. served core supplies source next (number + 1) lines) (λ next. served_bound next (number + 1) lines)
      (is_bad_line number line)

  -- it begins by reading its line
  pub served_begins : (session : Session) (number : ℕ) (lines : List (List ℕ))
      → (later : Course) × (served core supplies source session number lines ≡ first_do (wants std_in number ∷ []) later)
  unfolding served
  served_begins session number [] = (closed core session Done, refl)
  served_begins session number (line ∷ lines) = (behind_line session number line (λ next. served core supplies source next (number + 1) lines), refl)

  pub served_end : (session : Session) (number : ℕ) → served core supplies source session number [] ≡ first_do (wants std_in number ∷ []) (closed core session Done)
  unfolding served
  served_end session number = refl

  pub served_bad : (session : Session) (number : ℕ) (line : List ℕ) (lines : List (List ℕ)) → is_bad_line number line ≡ true
      → served core supplies source session number (line ∷ lines)
      ≡ first_do (wants std_in number ∷ []) (first_do (tells (bad_value_line std_in number)) (closed core session BadValue))
  unfolding served
  served_bad session number line lines bad =
      ap (λ b. first_do (wants std_in number ∷ []) (if b then first_do (tells (bad_value_line std_in number)) (closed core session BadValue)
      else answered core supplies source session number (command_of line) (λ next. served core supplies source next (number + 1) lines))) bad

  pub served_good : (session : Session) (number : ℕ) (line : List ℕ) (lines : List (List ℕ)) → is_bad_line number line ≡ false
      → served core supplies source session number (line ∷ lines)
      ≡ first_do (wants std_in number ∷ []) (answered core supplies source session number (command_of line) (λ next. served core supplies source next (number + 1) lines))
  unfolding served
  served_good session number line lines good =
      ap (λ b. first_do (wants std_in number ∷ []) (if b then first_do (tells (bad_value_line std_in number)) (closed core session BadValue)
      else answered core supplies source session number (command_of line) (λ next. served core supplies source next (number + 1) lines))) good

not_less : (a b : ℕ) → b ≤ a → nat_lt a b ≡ false
not_less a b le = elim (cases_Bool (nat_lt a b)) [ inl less ↦ (let l = ltb-true a b less in absurd (omega (arith, l, le))) | inr more ↦ more ]

or_yes : (b : Bool) → (b || true) ≡ true
or_yes true = refl
or_yes false = refl

module _ (call : Call) (number : ℕ) (old new : Served) (now : Hands) (news : List PortView) (at : StandsAt call number old now) (engine : new.engine ≡ old.engine)
    (places : new.places ≡ old.places) where
  abbrev before : CommandLines
  before = old.lines

  abbrev after : CommandLines
  after = new.lines

  abbrev Commands_before : Commands
  Commands_before = record { bytes = at.bytes; ended = before.ended }

  abbrev limit : ℕ
  limit = 64 * number

  -- only the commands were read
  pub only_commands : (ts : Pairs) → ((wanted : ℕ) → Made (wants std_in wanted ∷ []) ts now.ports news) → AreOnlyOf std_in ts
  only_commands ts made other differ = (made 0).only_wanted other
      (ap (λ b. b || false) (differ_eq other std_in differ))

  module _ (reads : ReadsOn before after std_in now.ports news) where
    of_name : AreOnlyOf std_in reads.taken
    of_name = only_commands reads.taken reads.made

    stays : before.ended ≡ true → (bytes_for std_in reads.taken ≡ []) × (after.ended ≡ true)
    stays over = let s = reads.stays over in (ap (bytes_for std_in) s.0, s.1)

    abbrev all_bytes : List ℕ
    all_bytes = at.bytes ++ bytes_for std_in reads.taken

    abbrev read_then : Bindings
    read_then = read_bindings call limit (left_lines call number (unread_in before)) old.engine Commands_before old.places now at.bindings at.stands number after.ended reads.taken news
        of_name stays (reads.made number)

    taken_then : HasTaken all_bytes after.ended (unread_in after) number
    taken_then = subst (λ (bs : List ℕ). HasTaken all_bytes after.ended bs number) (sym reads.unread)
        (taken_more at.bytes (bytes_for std_in reads.taken) (unread_in before) before.ended after.ended number stays at.taken)

    -- what was left is left to do behind the want
    goes : (left : Session → List ℕ → Course)
        → ((session : Session) (rest : List ℕ) → (after.ended ≡ true → rest ≡ [])
        → served call.core call.supplies call.source session number (lines_of (unread_in after ++ rest)) ≡ first_do (wants std_in number ∷ []) (left session rest))
        → ((session : Session) (rest : List ℕ) → bound_of (left session rest) ≡ session.port)
        → Stands call limit left new.engine (record { bytes = all_bytes; ended = after.ended }) new.places (hands_with now news) read_then
    goes left same bounds =
        let it = lines_read call limit (left_lines call number (unread_in before)) old.engine Commands_before old.places now at.bindings at.stands number after.ended reads.taken news
        of_name stays (reads.made number) left reads.ended
        (λ offers rest over.
        ap (λ (bs : List ℕ). served call.core call.supplies call.source (session_of old.engine at.bindings offers) number (lines_of bs))
        (sym (append_assoc (unread_in before) (bytes_for std_in reads.taken) rest) ∙ ap (λ (bs : List ℕ). bs ++ rest) (sym reads.unread))
        ∙ same (session_of old.engine at.bindings offers) rest over) bounds in
        subst (λ e. Stands call limit left e (record { bytes = all_bytes; ended = after.ended }) new.places (hands_with now news) read_then) (sym engine)
        (subst (λ p. Stands call limit left old.engine (record { bytes = all_bytes; ended = after.ended }) p (hands_with now news) read_then) (sym places) it)

    bad : ((rest : List ℕ) → (after.ended ≡ true → rest ≡ []) → (line : List ℕ) × (lines : List (List ℕ)) × (lines_of (unread_in after ++ rest) ≡ line ∷ lines)
        × (is_bad_line number line ≡ true)) → StandsBad call number new (hands_with now news)
    bad is = record {
      limit = limit;
      commands = record { bytes = all_bytes; ended = after.ended };
      goes = record {
        bindings = read_then;
        stands = goes (left_bad_command call number)
            (λ session rest over. (let i = is rest over in
            ap (served call.core call.supplies call.source session number) i.2 ∙ served_bad call.core call.supplies call.source session number i.0 i.1 i.3))
            (λ session rest. refl);
      };
    }

    next_by : (next : Next) → IsNext (unread_in after) after.ended next → EndsNext call number new (hands_with now news) (Ok next)
    next_by End next = record {
      limit = limit;
      commands = record { bytes = all_bytes; ended = after.ended };
      closes = record {
        bindings = read_then;
        stands = goes (left_closed call Done)
            (λ session rest over. ap (λ (bs : List ℕ). served call.core call.supplies call.source session number (lines_of bs))
            (ap (λ (bs : List ℕ). bs ++ rest) next.0 ∙ over next.1) ∙ served_end call.core call.supplies call.source session number)
            (λ session rest. refl);
      };
    }
    next_by TooLong next = bad (λ rest over. (
        let long = next rest in
        let bytes_long : nat_lt MAX_COMMAND_BYTES (length (unread_in after ++ long.0)) ≡ true = lt-ltb MAX_COMMAND_BYTES (length (unread_in after ++ long.0)) long.2 in
        (unread_in after ++ long.0, long.1, long.3, ap (λ b. nat_lt MAX_COMMANDS number || b) bytes_long ∙ or_yes (nat_lt MAX_COMMANDS number))))
    next_by (Line count) next = record {
      few = λ small. record {
        bytes = all_bytes;
        bindings = read_then;
        within = next.0;
        stands = goes (left_asked call number (command_of (take count (unread_in after))) (later_lines call (number + 1) (drop (count + 1) (unread_in after))))
            (λ session rest over. ap (served call.core call.supplies call.source session number) (next.2 rest over)
            ∙ served_good call.core call.supplies call.source session number (take count (unread_in after)) (lines_of (drop (count + 1) (unread_in after) ++ rest))
            (good small))
            (λ session rest. answered_bound call.core call.supplies call.source session number (command_of (take count (unread_in after)))
            (later_lines call (number + 1) (drop (count + 1) (unread_in after)) rest)
            (λ next. served_bound call.core call.supplies call.source next (number + 1) (lines_of (drop (count + 1) (unread_in after) ++ rest))));
        taken = taken_line all_bytes (unread_in after) (take count (unread_in after)) (drop (count + 1) (unread_in after)) after.ended number next.2 taken_then;
      };
      many = λ great. bad (λ rest over. (
        take count (unread_in after),
        lines_of (drop (count + 1) (unread_in after) ++ rest),
        next.2 rest over,
        ap (λ b. b || nat_lt MAX_COMMAND_BYTES (length (take count (unread_in after)))) (lt-ltb MAX_COMMANDS number great),
      ));
    }
      where
        good : number ≤ MAX_COMMANDS → is_bad_line number (take count (unread_in after)) ≡ false
        good small = ap (λ b. b || nat_lt MAX_COMMAND_BYTES (length (take count (unread_in after)))) (not_less MAX_COMMANDS number small)
            ∙ not_less MAX_COMMAND_BYTES (length (take count (unread_in after))) next.1

    pub next_ends : (next : Next) → IsNext (unread_in after) after.ended next → EndsNext call number new (hands_with now news) (Ok next)
    next_ends next is = next_by next is

  -- a read of the commands failed
  pub next_fails : FailsReading before std_in now.ports news → EndsCall call (hands_with now news) Fault
  next_fails fails =
      let ts : Pairs = fails.taken in
      let of_ts : AreOnlyOf std_in ts = λ other differ. (fails.made 0).only_wanted other
      (ap (λ b. b || false) (differ_eq other std_in differ)) in
      let never : before.ended ≡ true → (bytes_for std_in ts ≡ []) × (before.ended ≡ true) = λ over. absurd (true≢false (sym over ∙ fails.going)) in
      let more : HasTaken (at.bytes ++ bytes_for std_in ts) before.ended (unread_in before ++ bytes_for std_in ts) number =
      taken_more at.bytes (bytes_for std_in ts) (unread_in before) before.ended before.ended number never at.taken in
      let all : bytes_for std_in (at.bindings.taken ++ ts) ≡ at.bytes ++ bytes_for std_in ts =
      bytes_for-append std_in at.bindings.taken ts ∙ ap (λ (bs : List ℕ). bs ++ bytes_for std_in ts) at.stands.are in
      let few_lines : length (lines_of (whole_lines (bytes_for std_in (at.bindings.taken ++ ts)))) < number =
      subst (λ bs. length (lines_of (whole_lines bs)) < number) (sym all)
      (few_taken (at.bytes ++ bytes_for std_in ts) (unread_in before ++ bytes_for std_in ts) before.ended number fails.going fails.begun more) in
      lines_fail call limit (left_lines call number (unread_in before)) old.engine Commands_before old.places now at.bindings at.stands number ts fails.mid news of_ts fails.going
      (fails.made number) (fails.fails number)
      (λ session rest. served_begins call.core call.supplies call.source session number (lines_of (unread_in before ++ rest)))
      (λ offers rest. record {
        of_source = λ named. absurd (at.stands.serving.apart (sym (same_name std_in call.source named)));
        of_commands = λ named. few_lines;
        of_streams = λ accepted accepts n stream there named good bad until.
            absurd (no_stream_in call limit (left_lines call number (unread_in before)) old.engine Commands_before old.places now at.bindings at.stands n stream
            (subst (λ (c : Core). slice_get c.nodes n ≡ Some (From stream)) (at.stands.serving.one accepted accepts) there) named);
      })

  place : ArePlaced call.core call.source
      (session_of old.engine at.bindings (own_offers call limit (left_lines call number (unread_in before)) old.engine Commands_before old.places now at.bindings at.stands))
      (names now.ports) old.places
  place = own_placed call limit (left_lines call number (unread_in before)) old.engine Commands_before old.places now at.bindings at.stands

  -- however the read ends
  pub read_ends : (result : Result Next Failed) → OnOk result (ForNameAt old.places.std_in now.ports (λ name. ReadsOn before after name now.ports news))
      → IfOk result (IsNext (unread_in after) after.ended) → OnErr result (ForNameAt old.places.std_in now.ports (λ name. FailsReading before name now.ports news))
      → EndsNext call number new (hands_with now news) result
  read_ends (Ok next) reads is failed = next_ends (reads std_in place.at_std_in) next is
  read_ends (Err error) reads is failed = next_fails (failed std_in place.at_std_in)

-- the place of the commands is one of the ports
pub in_within : (call : Call) (number : ℕ) (old : Served) (now : Hands) → StandsAt call number old now → {X : Type 0} (view : X → PortView) (ports : List X)
    → now.ports ≡ map view ports → old.places.std_in < length ports
in_within call number old now at view ports are = subst (λ count. old.places.std_in < count)
    (length-map now.ports (λ (port : PortView). port.name) ∙ ap length are ∙ length-map ports view)
    (found_place std_in (names now.ports) old.places.std_in place.at_std_in).place.within
  where
    place : ArePlaced call.core call.source
        (session_of old.engine at.bindings (own_offers call (64 * number) (left_lines call number (unread_in old.lines)) old.engine
        (record { bytes = at.bytes; ended = old.lines.ended }) old.places now at.bindings at.stands)) (names now.ports) old.places
    place = own_placed call (64 * number) (left_lines call number (unread_in old.lines)) old.engine (record { bytes = at.bytes; ended = old.lines.ended }) old.places now
        at.bindings at.stands

-- taking a line and answering it

module _ (call : Call) (number count : ℕ) (session : Served) (now : Hands) (at : StandsBeforeLine call number count session now) (least : number ≤ MAX_COMMANDS) where
  -- what is answered to the line
  abbrev pub its_moment : Moment
  its_moment = record {
    call = call;
    limit = 64 * number;
    later = later_lines call (number + 1) (drop (count + 1) (unread_in session.lines));
    commands = record { bytes = at.bytes; ended = session.lines.ended };
    bindings = at.bindings;
  }

  pub is_moment : IsMoment its_moment (left_asked call number (command_of (take count (unread_in session.lines))) its_moment.later) session.engine session.places now
  is_moment = record {
    begins = λ rest next. served_bound call.core call.supplies call.source next (number + 1) (lines_of (drop (count + 1) (unread_in session.lines) ++ rest));
    most = omega (arith, least);
    stands = at.stands;
  }

  module _ (new : Served) (later : Hands) (unread : unread_in new.lines ≡ drop (count + 1) (unread_in session.lines)) (ended : new.lines.ended ≡ session.lines.ended) where
    more : 64 * number + 64 ≡ 64 * (number + 1)
    more = omega arith

    pub line_answered : (result : Result Turn Failed) → EndsAnswer call (64 * number + 64) its_moment.later new.engine its_moment.commands new.places later result
        → EndsLine call number new later result
    line_answered (Ok Continues) goes = record {
      bytes = at.bytes;
      bindings = goes.bindings;
      stands = subst (λ limit. Stands call limit (left_lines call (number + 1) (unread_in new.lines)) new.engine (record { bytes = at.bytes; ended = new.lines.ended })
          new.places later goes.bindings) more
          (subst (λ over. Stands call (64 * number + 64) (left_lines call (number + 1) (unread_in new.lines)) new.engine (record { bytes = at.bytes; ended = over })
          new.places later goes.bindings) (sym ended)
          (subst (λ bs. Stands call (64 * number + 64) (left_lines call (number + 1) bs) new.engine (record { bytes = at.bytes; ended = session.lines.ended })
          new.places later goes.bindings) (sym unread) goes.stands));
      taken = subst (λ over. HasTaken at.bytes over (unread_in new.lines) (number + 1)) (sym ended)
          (subst (λ bs. HasTaken at.bytes session.lines.ended bs (number + 1)) (sym unread) at.taken);
    }
    line_answered (Ok (EndsWith ending)) goes = record { limit = 64 * number + 64; commands = its_moment.commands; closes = goes }
    line_answered (Err failed) ends = ends

-- a line that asks for a step asks for a short one
pub short_steps : (line : List ℕ) → IsShort (command_of line)
short_steps line steps is = by_wires (bytes_eq line (codes "wires")) is
  where
    by_number : (number : Option ℕ) → step_of number ≡ Some (Step steps) → steps ≤ SPAN
    by_number None e = cc
    by_number (Some n) e = by (nat_le 1 n) (nat_le n SPAN) refl e
      where
        by : (low high : Bool) → nat_le n SPAN ≡ high → (if low && high then Some (Step n) else None) ≡ Some (Step steps) → steps ≤ SPAN
        by true true small found = (let same : n ≡ steps = cc in subst (λ k. k ≤ SPAN) same (leb-true n SPAN small))
        by true false small found = cc
        by false high small found = cc

    by_exchange : (names : Option (List ℕ)) → exchange_in names ≡ Some (Step steps) → steps ≤ SPAN
    by_exchange None e = cc
    by_exchange (Some names) e = at (position is_space names) e
      where
        named : (none : Bool) (stream port : List ℕ) → (if none then None else Some (Exchange stream port)) ≡ Some (Step steps) → steps ≤ SPAN
        named true stream port found = cc
        named false stream port found = cc

        at : (space : Option ℕ) → exchange_at names space ≡ Some (Step steps) → steps ≤ SPAN
        at None found = cc
        at (Some space) found = named ((length (take space names) == 0) || (length (drop (space + 1) names) == 0)) (take space names) (drop (space + 1) names) found

    by_step : (number : Option (List ℕ)) → step_in line number ≡ Some (Step steps) → steps ≤ SPAN
    by_step None e = by_exchange (behind (codes "exchange") line) e
    by_step (Some digits) e = by_number (number_of digits) e

    by_end : (b : Bool) → (if b then Some EndAsked else step_in line (behind (codes "step") line)) ≡ Some (Step steps) → steps ≤ SPAN
    by_end true e = cc
    by_end false e = by_step (behind (codes "step") line) e

    by_peaks : (b : Bool) → (if b then Some Peaks else if bytes_eq line (codes "end") then Some EndAsked else step_in line (behind (codes "step") line)) ≡ Some (Step steps)
        → steps ≤ SPAN
    by_peaks true e = cc
    by_peaks false e = by_end (bytes_eq line (codes "end")) e

    by_wires : (b : Bool) → (if b then Some Wires else if bytes_eq line (codes "peaks") then Some Peaks
        else if bytes_eq line (codes "end") then Some EndAsked else step_in line (behind (codes "step") line)) ≡ Some (Step steps) → steps ≤ SPAN
    by_wires true e = cc
    by_wires false e = by_peaks (bytes_eq line (codes "peaks")) e
