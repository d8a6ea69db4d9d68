-- A session reads `std_in` and ports of its input streams, and writes to and finishes `std_out` and ports of its output streams.
use Rattle.std.proofs.Common.{◌≡◌, ℕ, ◌+◌, Bool, true, false, List, [], ◌∷◌, ◌++◌, length, Option, None, Some, refl, sym, ◌∙◌, subst, inl, inr}
use Rattle.std.specs.Prelude.{slice_get, if◌then◌else◌}
use Rattle.std.specs.List.{AllByRecursion, flat_map, range_with_len}
use Rattle.std.specs.Option.{unwrap_or}
use Rattle.std.specs.Str.{bytes_eq}
use Rattle.std.proofs.lemmas.List.Elements.{All-from_recursion}
use Rattle.hume_base.specs.declared.rule.Refusal.{Refusal}
use Rattle.hume_base.specs.declared.types.Ty.{Ty}
use Rattle.hume_base.specs.declared.types.Value.{Value}
use Rattle.hume_model.specs.declared.core_tree.NodeC.{NodeC}
use Rattle.hume_model.specs.declared.core_tree.NodeC.TheVariants.{Rules, From, To}
use Rattle.hume_model.specs.declared.core_tree.Core.{Core}
use Rattle.hume_net.specs.Sides.{on_wire, part_of}
use Rattle.hume_ports.specs.Ports.{other_names}
use Rattle.hume_ports.specs.Delivery.{Pairs}
use Rattle.hume_streams.specs.Lines.{lines_of}
use Rattle.hume_streams.specs.places.LineWrites.{line_writes}
use Rattle.port_acts.specs.Acts.{Act, wants, finish_each, write_each}
use Rattle.phase_workers.specs.StreamTypes.{type_at}
use Rattle.trace_print.specs.InTurn.{lines_to}
use Rattle.trace_print.specs.table.Table.{space_table}
use Rattle.trace_print.specs.TraceLines.{peak_lines, wire_lines}
use Rattle.run_rounds.specs.Streams.{std_out}
use Rattle.run_rounds.specs.Writes.{bad_value_line, name_of}
use Rattle.hume_console.specs.declared.ending.Ending.{Ending}
use Rattle.hume_console.specs.declared.ending.Ending.TheVariants.{BadValue, Done, Fault}
use Rattle.hume_console.specs.Commands.{Command, Step, Wires, Peaks, Exchange, End, command_of, is_bad_line, no_command_line, no_exchange_line}
use Rattle.hume_console.specs.Courses.{Bound, Course, ends, leaves, first_do}
use Rattle.hume_console.specs.Headline.{IsOwed, refused, session_course}
use Rattle.hume_console.specs.Serving.{answered, closed, exchange_acts, exchange_course, lines_of_node, output_port, output_ports, served, step_course, step_lines, step_wants, tells, want_of_node}
use Rattle.hume_console.specs.Session.{Offer, Session, Supplies, after_steps, blocked_by, exchanged, first_session, may_exchange, place_at, stepped, stream_named, supply_of, text_of}
use Rattle.hume_console.specs.Words.{std_in}
use Rattle.hume_console.specs.inner.Bounds.{bound_of}
use Rattle.hume_console.proofs.CourseSteps.{bound_first}
use Rattle.session_laws.specs.OwnActs.{DoesOwnActs, IsOwnAct, MayWrite}

each_append : {X : Type 0} (P : X → Type 0) (xs ys : List X) → AllByRecursion P xs → AllByRecursion P ys → AllByRecursion P (xs ++ ys)
each_append P [] ys first last = last
each_append P (x ∷ xs) ys first last = (first.0, each_append P xs ys first.1 last)

each_flat : {X Y : Type 0} (P : Y → Type 0) (f : X → List Y) (xs : List X) → ((x : X) → AllByRecursion P (f x)) → AllByRecursion P (flat_map f xs)
each_flat P f [] each = tt
each_flat P f (x ∷ xs) each = each_append P (f x) (flat_map f xs) (each x) (each_flat P f xs each)

one_other : (P : List ℕ → Type 0) (name other : List ℕ) (others : List (List ℕ)) → P other → AllByRecursion P (other_names name others) → (b : Bool)
    → AllByRecursion P (if b then other_names name others else other ∷ other_names name others)
one_other P name other others one rest true = rest
one_other P name other others one rest false = (one, rest)

each_other : (P : List ℕ → Type 0) (name : List ℕ) (names : List (List ℕ)) → AllByRecursion P names → AllByRecursion P (other_names name names)
each_other P name [] each = tt
each_other P name (other ∷ others) each = one_other P name other others each.0 (each_other P name others each.1) (bytes_eq name other)

module _ (core : Core) where
  module _ (bound : Bound) where
    abbrev pub IsOwn : Act → Type 0
    IsOwn act = IsOwnAct core bound act

    lines_own : (lines : List (List ℕ)) → AllByRecursion IsOwn (lines_to std_out lines)
    lines_own [] = tt
    lines_own (line ∷ lines) = (inl refl, lines_own lines)

    finishes_own : (names : List (List ℕ)) → AllByRecursion (MayWrite core bound) names → AllByRecursion IsOwn (finish_each names)
    finishes_own [] each = tt
    finishes_own (name ∷ names) each = (each.0, finishes_own names each.1)

    pairs_own : (pairs : Pairs) → AllByRecursion (λ (pair : List ℕ × List ℕ). MayWrite core bound pair.0) pairs → AllByRecursion IsOwn (write_each pairs)
    pairs_own [] each = tt
    pairs_own (pair ∷ pairs) each = (each.0, pairs_own pairs each.1)

  module _ (session : Session) where
    wants_own : (steps count : ℕ) → AllByRecursion (IsOwn session.port) (step_wants core session steps count)
    wants_own steps count =
        each_flat (IsOwn session.port) (λ n. want_of_node session steps n (slice_get core.nodes n)) (range_with_len 0 count)
        (λ n. by n (slice_get core.nodes n) refl)
      where
        by : (n : ℕ) (o : Option NodeC) → slice_get core.nodes n ≡ o → AllByRecursion (IsOwn session.port) (want_of_node session steps n o)
        by n None e = tt
        by n (Some (Rules box)) e = tt
        by n (Some (From stream)) e = (inr (record { node = n; stream = stream; is = e; port = refl }), tt)
        by n (Some (To stream)) e = tt

    step_own : (taken : ℕ → List Value) → AllByRecursion (IsOwn session.port) (write_each (step_lines core session taken))
    step_own taken = pairs_own session.port (step_lines core session taken)
        (each_flat (λ (pair : List ℕ × List ℕ). MayWrite core session.port pair.0) (λ n. lines_of_node core session taken n (slice_get core.nodes n))
        (range_with_len 0 (length core.nodes)) (λ n. by n (slice_get core.nodes n) refl))
      where
        own : (n : ℕ) (ty : Ty) (values : List Value) → MayWrite core session.port (session.port n)
            → AllByRecursion (λ (pair : List ℕ × List ℕ). MayWrite core session.port pair.0) (line_writes (session.port n) core.types ty values)
        own n ty [] is = tt
        own n ty (value ∷ values) is = (is, own n ty values is)

        by : (n : ℕ) (o : Option NodeC) → slice_get core.nodes n ≡ o
            → AllByRecursion (λ (pair : List ℕ × List ℕ). MayWrite core session.port pair.0) (lines_of_node core session taken n o)
        by n None e = tt
        by n (Some (Rules box)) e = tt
        by n (Some (From stream)) e = tt
        by n (Some (To stream)) e = own n (type_at core n) (taken n) (inr (record { node = n; stream = stream; is = e; port = refl }))

    leaving_own : (n : ℕ) (o : Option NodeC) → slice_get core.nodes n ≡ o → AllByRecursion (IsOwn session.port) (exchange_acts session n o)
    leaving_own n None e = tt
    leaving_own n (Some (Rules box)) e = tt
    leaving_own n (Some (From stream)) e = tt
    leaving_own n (Some (To stream)) e = (inr (record { node = n; stream = stream; is = e; port = refl }), tt)

    outputs_own : AllByRecursion (MayWrite core session.port) (output_ports core session)
    outputs_own = each_flat (MayWrite core session.port) (λ n. output_port session n (slice_get core.nodes n)) (range_with_len 0 (length core.nodes))
        (λ n. by n (slice_get core.nodes n) refl)
      where
        by : (n : ℕ) (o : Option NodeC) → slice_get core.nodes n ≡ o → AllByRecursion (MayWrite core session.port) (output_port session n o)
        by n None e = tt
        by n (Some (Rules box)) e = tt
        by n (Some (From stream)) e = tt
        by n (Some (To stream)) e = (inr (record { node = n; stream = stream; is = e; port = refl }), tt)

  -- all acts of a course are own ones, and its answer is no fault
  abbrev pub IsFineCourse : Course → Type 0
  IsFineCourse (ends bound acts answer) = AllByRecursion (IsOwn bound) acts × (answer ≡ Fault → ⊥)
  IsFineCourse (leaves bound acts at later) = AllByRecursion (IsOwn bound) acts × IsFineCourse later

  pub course_own : (course : Course) → IsFineCourse course → DoesOwnActs core course
  course_own (ends bound acts answer) fine = All-from_recursion (IsOwn bound) acts fine.0
  course_own (leaves bound acts at later) fine = (All-from_recursion (IsOwn bound) acts fine.0, course_own later fine.1)

  -- a course of a session that stands here
  abbrev IsFine : Session → Course → Type 0
  IsFine session course = (bound_of course ≡ session.port) × IsFineCourse course

  first_own : (acts : List Act) (course : Course) → AllByRecursion (IsOwn (bound_of course)) acts → IsFineCourse course → IsFineCourse (first_do acts course)
  first_own acts (ends bound others answer) first fine = (each_append (IsOwn bound) acts others first fine.0, fine.1)
  first_own acts (leaves bound others at later) first fine = (each_append (IsOwn bound) acts others first fine.0, fine.1)

  first_fine : (session : Session) (acts : List Act) (course : Course) → AllByRecursion (IsOwn session.port) acts → IsFine session course
      → IsFine session (first_do acts course)
  first_fine session acts course first fine = (
    bound_first acts course ∙ fine.0,
    first_own acts course (subst (λ (bound : Bound). AllByRecursion (IsOwn bound) acts) (sym fine.0) first) fine.1,
  )

  closed_fine : (session : Session) (answer : Ending) → (answer ≡ Fault → ⊥) → IsFine session (closed core session answer)
  closed_fine session answer sound = (
    refl,
    (
      finishes_own session.port (other_names std_out (output_ports core session) ++ std_out ∷ [])
          (each_append (MayWrite core session.port) (other_names std_out (output_ports core session)) (std_out ∷ [])
          (each_other (MayWrite core session.port) std_out (output_ports core session) (outputs_own session)) (inl refl, tt)),
      sound,
    ),
  )

  told_fine : (session : Session) (line : List ℕ) (course : Course) → IsFine session course → IsFine session (first_do (tells line) course)
  told_fine session line course fine = first_fine session (tells line) course (inl refl, tt) fine

  not_done : Done ≡ Fault → ⊥
  not_done e = cc

  not_bad : BadValue ≡ Fault → ⊥
  not_bad e = cc

  module _ (supplies : Supplies) (source : List ℕ) where
    step_fine : (session : Session) (steps : ℕ) (o : Option ℕ) (later : Session → Course) → ((next : Session) → IsFine next (later next))
        → IsFine session (step_course core supplies session steps o later)
    step_fine session steps None later fine =
        let next = fine (stepped core supplies session steps) in
        let taken : ℕ → List Value = λ n. (part_of (after_steps core supplies session steps) n).taken in
        first_fine session (step_wants core session steps (length core.nodes) ++ write_each (step_lines core session taken)) (later (stepped core supplies session steps))
        (each_append (IsOwn session.port) (step_wants core session steps (length core.nodes)) (write_each (step_lines core session taken))
        (wants_own session steps (length core.nodes)) (step_own session taken))
        (next.0, next.1)
    step_fine session steps (Some n) later fine =
        let line = bad_value_line (name_of (slice_get core.nodes n)) (unwrap_or (supply_of supplies session n).bad 0) in
        first_fine session (step_wants core session steps (n + 1) ++ tells line) (closed core session BadValue)
        (each_append (IsOwn session.port) (step_wants core session steps (n + 1)) (tells line) (wants_own session steps (n + 1)) (inl refl, tt))
        (closed_fine session BadValue not_bad)

    exchange_fine : (session : Session) (number : ℕ) (named : Option ℕ) (port : List ℕ) (later : Session → Course) → ((next : Session) → IsFine next (later next))
        → IsFine session (exchange_course core source session number named port later)
    exchange_fine session number None port later fine = told_fine session (no_exchange_line number) (later session) (fine session)
    exchange_fine session number (Some n) port later fine = by (may_exchange core source session n port)
      where
        by : (may : Bool) → IsFine session (if may
            then leaves session.port (exchange_acts session n (slice_get core.nodes n)) (place_at session n) (later (exchanged session n port))
            else first_do (tells (no_exchange_line number)) (later session))
        by true = (refl, (leaving_own session n (slice_get core.nodes n) refl, (fine (exchanged session n port)).1))
        by false = told_fine session (no_exchange_line number) (later session) (fine session)

    line_fine : (session : Session) (number : ℕ) (asked : Option Command) (later : Session → Course) → ((next : Session) → IsFine next (later next))
        → IsFine session (answered core supplies source session number asked later)
    line_fine session number None later fine = told_fine session (no_command_line number) (later session) (fine session)
    line_fine session number (Some (Step steps)) later fine = step_fine session steps (blocked_by core supplies session steps) later fine
    line_fine session number (Some Wires) later fine =
        first_fine session (lines_to std_out (wire_lines core (on_wire session.net))) (later session) (lines_own session.port (wire_lines core (on_wire session.net))) (fine session)
    line_fine session number (Some Peaks) later fine =
        first_fine session (lines_to std_out (peak_lines core session.peaks)) (later session) (lines_own session.port (peak_lines core session.peaks)) (fine session)
    line_fine session number (Some (Exchange stream port)) later fine = exchange_fine session number (stream_named core stream) port later fine
    line_fine session number (Some End) later fine = closed_fine session Done not_done

    good_or_bad : (session : Session) (number : ℕ) (line : List ℕ) (later : Session → Course) → ((next : Session) → IsFine next (later next)) → (bad : Bool)
        → IsFine session (if bad then first_do (tells (bad_value_line std_in number)) (closed core session BadValue)
        else answered core supplies source session number (command_of line) later)
    good_or_bad session number line later fine true =
        told_fine session (bad_value_line std_in number) (closed core session BadValue) (closed_fine session BadValue not_bad)
    good_or_bad session number line later fine false = line_fine session number (command_of line) later fine

    -- what is answered to a line, and what comes later
    abbrev behind_line : Session → ℕ → List ℕ → (Session → Course) → Course
    behind_line session number line later = if is_bad_line number line then first_do (tells (bad_value_line std_in number)) (closed core session BadValue)
        else answered core supplies source session number (command_of line) later

    lines_fine : (lines : List (List ℕ)) (session : Session) (number : ℕ) → IsFine session (served core supplies source session number lines)
    unfolding served
    lines_fine [] session number = first_fine session (wants std_in number ∷ []) (closed core session Done) (inl refl, tt) (closed_fine session Done not_done)
    lines_fine (line ∷ lines) session number =
        first_fine session (wants std_in number ∷ []) (behind_line session number line (λ next. served core supplies source next (number + 1) lines)) (inl refl, tt)
        (good_or_bad session number line (λ next. served core supplies source next (number + 1) lines) (λ next. lines_fine lines next (number + 1))
        (is_bad_line number line))

    pub session_fine : (offers : List Offer) → IsFineCourse (session_course core supplies source offers)
    session_fine offers =
        let course = served core supplies source (first_session core offers) 1 (lines_of (text_of std_in offers)) in
        let fine = lines_fine (lines_of (text_of std_in offers)) (first_session core offers) 1 in
        (first_fine (first_session core offers) (lines_to std_out (space_table core)) course (lines_own (first_session core offers).port (space_table core)) fine).1

  -- a refused source has no session
  pub refused_fine : (refusal : Refusal) → IsFineCourse (refused refusal)
  refused_fine refusal = ((inl refl, (inl refl, tt)), λ is. cc)

-- the answer of a course is no fault
abbrev pub AnswersWell : Course → Type 0
AnswersWell (ends bound acts answer) = answer ≡ Fault → ⊥
AnswersWell (leaves bound acts at later) = AnswersWell later

pub well : (core : Core) (course : Course) → IsFineCourse core course → AnswersWell course
well core (ends bound acts answer) fine = fine.1
well core (leaves bound acts at later) fine = well core later fine.1

pub well_first : (acts : List Act) (course : Course) → AnswersWell course → AnswersWell (first_do acts course)
well_first acts (ends bound others answer) is = is
well_first acts (leaves bound others at later) is = is

pub owed_well : (text source : List ℕ) (names : List (List ℕ)) (offers : List Offer) (course : Course) → IsOwed text source names offers course
    → AnswersWell course
owed_well text source names offers course (inl p) = subst AnswersWell (sym p.2) (λ is. cc)
owed_well text source names offers course (inr p) =
    subst AnswersWell (sym p.5) (well p.0.core (session_course p.0.core p.3 source offers) (session_fine p.0.core p.3 source offers))
