-- A session writes to `std_out` and to the ports that its output streams have.
use Rattle.std.proofs.Common.{◌≡◌, ◌⊎◌, ℕ, ◌+◌, Bool, true, false, List, [], ◌∷◌, ◌++◌, length, Option, None, Some, refl, sym, ◌∙◌, subst, inl, inr}
use Rattle.std.specs.Prelude.{⊤, slice_get, if◌then◌else◌}
use Rattle.std.specs.List.{AllByRecursion, flat_map, range_with_len}
use Rattle.std.specs.Option.{unwrap_or}
use Rattle.std.proofs.lemmas.List.Elements.{All-from_recursion}
use Rattle.hume_base.specs.declared.types.Ty.{Ty}
use Rattle.hume_base.specs.declared.types.Value.{Value}
use Rattle.hume_model.specs.declared.core_tree.NodeC.{NodeC}
use Rattle.hume_model.specs.declared.core_tree.NodeC.TheVariants.{Rules, From, To}
use Rattle.hume_model.specs.declared.core_tree.Core.{Core}
use Rattle.hume_net.specs.Sides.{on_wire, part_of}
use Rattle.hume_ports.specs.Ports.{other_names}
use Rattle.hume_ports.specs.Delivery.{Pairs, names_in}
use Rattle.hume_streams.specs.places.LineWrites.{line_writes}
use Rattle.port_acts.specs.Acts.{Act, wants, writes, finishes, finish_each, write_each, written}
use Rattle.phase_workers.specs.StreamTypes.{type_at}
use Rattle.trace_print.specs.InTurn.{lines_to}
use Rattle.trace_print.specs.table.Table.{space_table}
use Rattle.trace_print.specs.TraceLines.{peak_lines, wire_lines}
use Rattle.run_rounds.specs.Streams.{std_out}
use Rattle.run_rounds.specs.Writes.{bad_value_line, name_of}
use Rattle.hume_streams.specs.Lines.{lines_of}
use Rattle.hume_console.specs.declared.ending.Ending.{Ending}
use Rattle.hume_console.specs.declared.ending.Ending.TheVariants.{BadValue, Done}
use Rattle.hume_console.specs.Commands.{Command, Step, Wires, Peaks, Exchange, End, command_of, is_bad_line, no_command_line, no_exchange_line}
use Rattle.hume_console.specs.Courses.{Bound, Course, ends, leaves, first_do}
use Rattle.hume_console.specs.Headline.{session_course}
use Rattle.hume_console.specs.Outputs.{HasOutput, WriteToOutputs, WritesToOutputs}
use Rattle.hume_console.specs.Serving.{answered, closed, exchange_acts, exchange_course, lines_of_node, output_ports, served, step_course, step_lines, step_wants, tells, want_of_node}
use Rattle.hume_console.specs.Session.{Offer, Session, Supplies, after_steps, blocked_by, exchanged, first_session, may_exchange, place_at, stepped, stream_named, supply_of, text_of}
use Rattle.hume_console.specs.Words.{std_in}
use Rattle.hume_console.specs.inner.Bounds.{bound_of}
use Rattle.hume_console.proofs.CourseSteps.{bound_first}

each_append : {X : Type 0} (P : X → Type 0) (xs ys : List X) → AllByRecursion P xs → AllByRecursion P ys → AllByRecursion P (xs ++ ys)
each_append P [] ys first last = last
each_append P (x ∷ xs) ys first last = (first.0, each_append P xs ys first.1 last)

each_flat : {X Y : Type 0} (P : Y → Type 0) (f : X → List Y) (xs : List X) → ((x : X) → AllByRecursion P (f x)) → AllByRecursion P (flat_map f xs)
each_flat P f [] each = tt
each_flat P f (x ∷ xs) each = each_append P (f x) (flat_map f xs) (each x) (each_flat P f xs each)

module _ (core : Core) where
  module _ (bound : Bound) where
    abbrev IsWritable : List ℕ → Type 0
    IsWritable name = (name ≡ std_out) ⊎ HasOutput core bound name

    abbrev IsSound : Act → Type 0
    IsSound (wants name count) = ⊤
    IsSound (writes name bytes) = IsWritable name
    IsSound (finishes name) = ⊤

    each_written : (acts : List Act) → AllByRecursion IsSound acts → AllByRecursion IsWritable (names_in (written acts))
    each_written [] sound = tt
    each_written (wants name count ∷ acts) sound = each_written acts sound.1
    each_written (writes name bytes ∷ acts) sound = (sound.0, each_written acts sound.1)
    each_written (finishes name ∷ acts) sound = each_written acts sound.1

    all_written : (acts : List Act) → AllByRecursion IsSound acts → WriteToOutputs core bound acts
    all_written acts sound = All-from_recursion IsWritable (names_in (written acts)) (each_written acts sound)

    lines_sound : (lines : List (List ℕ)) → AllByRecursion IsSound (lines_to std_out lines)
    lines_sound [] = tt
    lines_sound (line ∷ lines) = (inl refl, lines_sound lines)

    finishes_sound : (names : List (List ℕ)) → AllByRecursion IsSound (finish_each names)
    finishes_sound [] = tt
    finishes_sound (name ∷ names) = (tt, finishes_sound names)

    pairs_sound : (pairs : Pairs) → AllByRecursion (λ (pair : List ℕ × List ℕ). IsWritable pair.0) pairs → AllByRecursion IsSound (write_each pairs)
    pairs_sound [] sound = tt
    pairs_sound (pair ∷ pairs) sound = (sound.0, pairs_sound pairs sound.1)

  module _ (session : Session) where
    wants_sound : (steps count : ℕ) → AllByRecursion (IsSound session.port) (step_wants core session steps count)
    wants_sound steps count = each_flat (IsSound session.port) (λ n. want_of_node session steps n (slice_get core.nodes n)) (range_with_len 0 count) (λ n. by n (slice_get core.nodes n))
      where
        by : (n : ℕ) (o : Option NodeC) → AllByRecursion (IsSound session.port) (want_of_node session steps n o)
        by n None = tt
        by n (Some (Rules box)) = tt
        by n (Some (From stream)) = (tt, tt)
        by n (Some (To stream)) = tt

    step_sound : (taken : ℕ → List Value) → AllByRecursion (IsSound session.port) (write_each (step_lines core session taken))
    step_sound taken = pairs_sound session.port (step_lines core session taken)
        (each_flat (λ (pair : List ℕ × List ℕ). IsWritable session.port pair.0) (λ n. lines_of_node core session taken n (slice_get core.nodes n)) (range_with_len 0 (length core.nodes))
        (λ n. by n (slice_get core.nodes n) refl))
      where
        own : (n : ℕ) (ty : Ty) (values : List Value) → IsWritable session.port (session.port n)
            → AllByRecursion (λ (pair : List ℕ × List ℕ). IsWritable session.port pair.0) (line_writes (session.port n) core.types ty values)
        own n ty [] is = tt
        own n ty (value ∷ values) is = (is, own n ty values is)

        by : (n : ℕ) (o : Option NodeC) → slice_get core.nodes n ≡ o
            → AllByRecursion (λ (pair : List ℕ × List ℕ). IsWritable session.port pair.0) (lines_of_node core session taken n o)
        by n None e = tt
        by n (Some (Rules box)) e = tt
        by n (Some (From stream)) e = tt
        by n (Some (To stream)) e = own n (type_at core n) (taken n) (inr (record { node = n; stream = stream; is = e; port = refl }))

    leaving_sound : (n : ℕ) (o : Option NodeC) → AllByRecursion (IsSound session.port) (exchange_acts session n o)
    leaving_sound n None = tt
    leaving_sound n (Some (Rules box)) = tt
    leaving_sound n (Some (From stream)) = tt
    leaving_sound n (Some (To stream)) = (tt, tt)

  -- all acts of a course are sound
  abbrev IsSoundCourse : Course → Type 0
  IsSoundCourse (ends bound acts answer) = AllByRecursion (IsSound bound) acts
  IsSoundCourse (leaves bound acts at later) = AllByRecursion (IsSound bound) acts × IsSoundCourse later

  pub course_writes : (course : Course) → IsSoundCourse course → WritesToOutputs core course
  course_writes (ends bound acts answer) sound = all_written bound acts sound
  course_writes (leaves bound acts at later) sound = (all_written bound acts sound.0, course_writes later sound.1)

  -- a course of a session that stands here
  abbrev IsFine : Session → Course → Type 0
  IsFine session course = (bound_of course ≡ session.port) × IsSoundCourse course

  first_sound : (acts : List Act) (course : Course) → AllByRecursion (IsSound (bound_of course)) acts → IsSoundCourse course → IsSoundCourse (first_do acts course)
  first_sound acts (ends bound others answer) first sound = each_append (IsSound bound) acts others first sound
  first_sound acts (leaves bound others at later) first sound = (each_append (IsSound bound) acts others first sound.0, sound.1)

  first_fine : (session : Session) (acts : List Act) (course : Course) → AllByRecursion (IsSound session.port) acts → IsFine session course → IsFine session (first_do acts course)
  first_fine session acts course first fine = (
    bound_first acts course ∙ fine.0,
    first_sound acts course (subst (λ (bound : Bound). AllByRecursion (IsSound bound) acts) (sym fine.0) first) fine.1,
  )

  closed_fine : (session : Session) (answer : Ending) → IsFine session (closed core session answer)
  closed_fine session answer = (refl, finishes_sound session.port (other_names std_out (output_ports core session) ++ std_out ∷ []))

  told_fine : (session : Session) (line : List ℕ) (course : Course) → IsFine session course → IsFine session (first_do (tells line) course)
  told_fine session line course fine = first_fine session (tells line) course (inl refl, tt) fine

  module _ (supplies : Supplies) (source : List ℕ) where
    step_fine : (session : Session) (steps : ℕ) (o : Option ℕ) (later : Session → Course) → ((next : Session) → IsFine next (later next))
        → IsFine session (step_course core supplies session steps o later)
    step_fine session steps None later fine =
        let next = fine (stepped core supplies session steps) in
        let taken : ℕ → List Value = λ n. (part_of (after_steps core supplies session steps) n).taken in
        first_fine session (step_wants core session steps (length core.nodes) ++ write_each (step_lines core session taken)) (later (stepped core supplies session steps))
        (each_append (IsSound session.port) (step_wants core session steps (length core.nodes)) (write_each (step_lines core session taken))
        (wants_sound session steps (length core.nodes)) (step_sound session taken))
        (next.0, next.1)
    step_fine session steps (Some n) later fine =
        let line = bad_value_line (name_of (slice_get core.nodes n)) (unwrap_or (supply_of supplies session n).bad 0) in
        first_fine session (step_wants core session steps (n + 1) ++ tells line) (closed core session BadValue)
        (each_append (IsSound session.port) (step_wants core session steps (n + 1)) (tells line) (wants_sound session steps (n + 1)) (inl refl, tt))
        (closed_fine session BadValue)

    exchange_fine : (session : Session) (number : ℕ) (named : Option ℕ) (port : List ℕ) (later : Session → Course) → ((next : Session) → IsFine next (later next))
        → IsFine session (exchange_course core source session number named port later)
    exchange_fine session number None port later fine = told_fine session (no_exchange_line number) (later session) (fine session)
    exchange_fine session number (Some n) port later fine = by (may_exchange core source session n port)
      where
        by : (may : Bool) → IsFine session (if may
            then leaves session.port (exchange_acts session n (slice_get core.nodes n)) (place_at session n) (later (exchanged session n port))
            else first_do (tells (no_exchange_line number)) (later session))
        by true = (refl, (leaving_sound session n (slice_get core.nodes n), (fine (exchanged session n port)).1))
        by false = told_fine session (no_exchange_line number) (later session) (fine session)

    line_fine : (session : Session) (number : ℕ) (asked : Option Command) (later : Session → Course) → ((next : Session) → IsFine next (later next))
        → IsFine session (answered core supplies source session number asked later)
    line_fine session number None later fine = told_fine session (no_command_line number) (later session) (fine session)
    line_fine session number (Some (Step steps)) later fine = step_fine session steps (blocked_by core supplies session steps) later fine
    line_fine session number (Some Wires) later fine =
        first_fine session (lines_to std_out (wire_lines core (on_wire session.net))) (later session) (lines_sound session.port (wire_lines core (on_wire session.net))) (fine session)
    line_fine session number (Some Peaks) later fine =
        first_fine session (lines_to std_out (peak_lines core session.peaks)) (later session) (lines_sound session.port (peak_lines core session.peaks)) (fine session)
    line_fine session number (Some (Exchange stream port)) later fine = exchange_fine session number (stream_named core stream) port later fine
    line_fine session number (Some End) later fine = closed_fine session Done

    good_or_bad : (session : Session) (number : ℕ) (line : List ℕ) (later : Session → Course) → ((next : Session) → IsFine next (later next)) → (bad : Bool)
        → IsFine session (if bad then first_do (tells (bad_value_line std_in number)) (closed core session BadValue)
        else answered core supplies source session number (command_of line) later)
    good_or_bad session number line later fine true = told_fine session (bad_value_line std_in number) (closed core session BadValue) (closed_fine session BadValue)
    good_or_bad session number line later fine false = line_fine session number (command_of line) later fine

    -- what is answered to a line, and what comes later
    abbrev behind_line : Session → ℕ → List ℕ → (Session → Course) → Course
    behind_line session number line later = if is_bad_line number line then first_do (tells (bad_value_line std_in number)) (closed core session BadValue)
        else answered core supplies source session number (command_of line) later

    lines_fine : (lines : List (List ℕ)) (session : Session) (number : ℕ) → IsFine session (served core supplies source session number lines)
    unfolding served
    lines_fine [] session number = first_fine session (wants std_in number ∷ []) (closed core session Done) (tt, tt) (closed_fine session Done)
    lines_fine (line ∷ lines) session number =
        first_fine session (wants std_in number ∷ []) (behind_line session number line (λ next. served core supplies source next (number + 1) lines)) (tt, tt)
        (good_or_bad session number line (λ next. served core supplies source next (number + 1) lines) (λ next. lines_fine lines next (number + 1))
        (is_bad_line number line))

    pub session_writes : (offers : List Offer) → WritesToOutputs core (session_course core supplies source offers)
    session_writes offers =
        let course = served core supplies source (first_session core offers) 1 (lines_of (text_of std_in offers)) in
        let fine = lines_fine (lines_of (text_of std_in offers)) (first_session core offers) 1 in
        course_writes (session_course core supplies source offers)
        (first_fine (first_session core offers) (lines_to std_out (space_table core)) course (lines_sound (first_session core offers).port (space_table core)) fine).1
