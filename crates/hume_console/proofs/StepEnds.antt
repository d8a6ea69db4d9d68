-- How a step ends before it is made: a read fails, or a bad line of a stream blocks it.
use Rattle.std.proofs.Common.{◌≡◌, ◌⊎◌, ℕ, ◌+◌, ◌-◌, ◌<◌, ◌≤◌, min, true, false, List, [], ◌∷◌, ◌++◌, length, refl, ap, sym, ◌∙◌, subst, inl, inr, append-nil, append_assoc, length-append, arith, Option, None, Some, Result}
use Rattle.std.specs.Prelude.{slice_get, slice_index_or}
use Rattle.std.specs.Option.{unwrap_or}
use Rattle.std.proofs.lemmas.Bool.{cases_lt, true≢false}
use Rattle.std.proofs.lemmas.List.{length-map}
use Rattle.std.proofs.lemmas.Option.{slice_get_within}
use Rattle.hume_base.specs.Flat.{flat}
use Rattle.hume_base.specs.declared.types.Value.{Value}
use Rattle.hume_model.specs.declared.core_tree.NodeC.{NodeC}
use Rattle.hume_model.specs.declared.core_tree.NodeC.TheVariants.{Rules, From, To}
use Rattle.hume_model.specs.declared.core_tree.StreamC.{StreamC}
use Rattle.hume_model.specs.declared.core_tree.Core.{Core}
use Rattle.hume_net.specs.declared.state.State.{State}
use Rattle.hume_net.specs.Nodes.{IsInput}
use Rattle.hume_net.specs.Parts.{IsStateOf}
use Rattle.hume_ports.specs.Port.{PortView, last_count}
use Rattle.hume_ports.specs.Ports.{names, place_of, Untouched}
use Rattle.hume_ports.specs.Delivery.{Pairs, Progress, ReadFailure, Roomy, bytes_for}
use Rattle.hume_ports.proofs.Names.{bytes_for-append, same_name}
use Rattle.port_acts.specs.Acts.{Act, wants, write_each}
use Rattle.port_acts.specs.Ends.{Few, Fails, Made}
use Rattle.port_acts.proofs.Failing.{Fails-on}
use Rattle.port_acts.proofs.Making.{Made-on}
use Rattle.port_acts.proofs.Single.{only_of, want_fails, want_made}
use Rattle.hume_streams.specs.declared.queue.FillError.{FillError}
use Rattle.hume_streams.specs.Lines.{whole_lines}
use Rattle.hume_streams.specs.Fills.{HasReadWholeLines}
use Rattle.hume_streams.specs.Good.{IsGoodUntil}
use Rattle.hume_streams.specs.Queues.{IsQueueOf}
use Rattle.hume_streams.proofs.GoodOnce.{good_once}
use Rattle.hume_streams.proofs.WholeLines.{taken_given}
use Rattle.phase_workers.specs.Engines.{EngineView as Engine}
use Rattle.phase_workers.specs.Engines.{coming_at, core_of, queue_at, span_of, state_of, ArePeaksKept}
use Rattle.phase_workers.specs.NodeFills.{FillsNode, HasEnough, HasReadAll, StandsBefore as StandsBeforeBad}
use Rattle.phase_workers.specs.StreamTypes.{type_at}
use Rattle.run_rounds.specs.Writes.{bad_value_line, name_of}
use Rattle.run_rounds.proofs.FirstFound.{found}
use Rattle.run_rounds.proofs.Ranges.{flat_within}
use Rattle.hume_console.specs.declared.ending.Ending.TheVariants.{BadValue, Fault}
use Rattle.hume_console.specs.Words.{std_in}
use Rattle.hume_console.specs.Courses.{Bound, Course, first_do, EndsCourse}
use Rattle.hume_console.specs.inner.Bounds.{bound_of}
use Rattle.hume_console.specs.Headline.{session_few}
use Rattle.hume_console.specs.Serving.{closed, step_course, step_lines, step_wants, tells, want_of_node}
use Rattle.hume_console.specs.Session.{Session, Supplies, Offer, after_steps, blocked_by, is_blocked, lacking, stepped, supply_of, text_of}
use Rattle.hume_net.specs.Sides.{part_of}
use Rattle.hume_console.specs.inner.Placed.{ArePlaced}
use Rattle.hume_console.specs.inner.Standing.{AreRead, Bindings, EndsCall, MayHave, Stands, session_of}
use Rattle.hume_console.specs.inner.Stepping.{IsBlockedAt, StandsFilling, Step, filled_bindings, hands_in, left_bad, left_step}
use Rattle.hume_console.proofs.CourseSteps.{bound_first, fails_first, first_in_turn, made_first}
use Rattle.hume_console.proofs.FedStates.{filled_parts}
use Rattle.hume_console.proofs.Offers.{offers_read}
use Rattle.hume_console.proofs.SomeTexts.{some_texts}
use Rattle.hume_console.proofs.Standings.{own_offers, own_placed, placed_as}
use Rattle.hume_console.proofs.StepFilling.{apart, coming_now, earlier_now, fed_now, few_now, first_session, its, no_commands, no_commands_now, no_source, read_now, state_now, still_filled, ts_now, wants_now}
use Rattle.hume_console.proofs.StepSupplied.{all_goes_on, bad_blocks, bad_number, enough_goes_on, find_first, its_bad, other_goes_on}
use Rattle.hume_console.proofs.ReadOn.{same_or_other}

-- every course of a step begins with the wants of the first nodes, if none of the nodes before the last of these blocks it
pub step_begins : (core : Core) (supplies : Supplies) (session : Session) (steps n : ℕ) (later : Session → Course)
    → ((next : Session) → bound_of (later next) ≡ next.port) → n < length core.nodes → (blocked : Option ℕ) → ((k : ℕ) → blocked ≡ Some k → n ≤ k)
    → (rest : Course) × (bound_of rest ≡ session.port) × (step_course core supplies session steps blocked later ≡ first_do (step_wants core session steps (n + 1)) rest)
step_begins core supplies session steps n later begins less None from =
    let more = flat_within (λ m. want_of_node session steps m (slice_get core.nodes m)) 0 (n + 1) (length core.nodes) (omega (arith, less)) in
    let writes : List Act = write_each (step_lines core session (λ m. (part_of (after_steps core supplies session steps) m).taken)) in
    let next : Session = stepped core supplies session steps in (
      first_do (more.0 ++ writes) (later next),
      bound_first (more.0 ++ writes) (later next) ∙ begins next,
      ap (λ (acts : List Act). first_do (acts ++ writes) (later next)) more.1
          ∙ ap (λ (acts : List Act). first_do acts (later next)) (append_assoc (step_wants core session steps (n + 1)) more.0 writes)
          ∙ sym (first_in_turn (step_wants core session steps (n + 1)) (more.0 ++ writes) (later next)),
    )
step_begins core supplies session steps n later begins less (Some k) from =
    let least : n ≤ k = from k refl in
    let more = flat_within (λ m. want_of_node session steps m (slice_get core.nodes m)) 0 (n + 1) (k + 1) (omega (arith, least)) in
    let told : List Act = tells (bad_value_line (name_of (slice_get core.nodes k)) (unwrap_or (supply_of supplies session k).bad 0)) in (
      first_do (more.0 ++ told) (closed core session BadValue),
      refl,
      ap (λ (acts : List Act). first_do (acts ++ told) (closed core session BadValue)) more.1
          ∙ ap (λ (acts : List Act). first_do acts (closed core session BadValue)) (append_assoc (step_wants core session steps (n + 1)) more.0 told)
          ∙ sym (first_in_turn (step_wants core session steps (n + 1)) (more.0 ++ told) (closed core session BadValue)),
    )

-- the first one that blocks is none of those that don't
pub blocks_from : (core : Core) (supplies : Supplies) (session : Session) (steps n : ℕ)
    → ((m : ℕ) → m < n → is_blocked core supplies session steps m ≡ false) → (k : ℕ) → blocked_by core supplies session steps ≡ Some k → n ≤ k
blocks_from core supplies session steps n none k is = elim (cases_lt k n) [
  | inl less ↦
      let its = found (is_blocked core supplies session steps) 0 (length core.nodes) k is in
      absurd (true≢false (sym its.passes ∙ none k less))
  | inr more ↦ omega (arith, more)
]

module _ (step : Step) (n : ℕ) (old new : Engine) (mids news : List PortView) (stream : StreamC) (is : slice_get step.call.core.nodes n ≡ Some (From stream))
    (it : StandsFilling step n old mids) (result : Result (Unit {0}) FillError)
    (fill : FillsNode step.steps old new n (step.bindings.port n) mids news result) (same_core : core_of new ≡ core_of old) where
  abbrev core : Core
  core = step.call.core

  abbrev b : Bindings
  b = step.bindings

  abbrev few : Bound → Few
  few = session_few step.call.source step.call.text

  abbrev fed : ℕ → List Value
  fed = fed_now step n old new mids news stream is it result fill same_core

  abbrev ts : Pairs
  ts = ts_now step n old new mids news stream is it result fill same_core

  abbrev now : Bindings
  now = filled_bindings b fed ts

  abbrev stands : Stands step.call step.limit (left_step step.call step.steps step.later) step.engine step.commands step.places step.before b
  stands = it.begun.stands

  abbrev place : ArePlaced core step.call.source
      (session_of step.engine b (own_offers step.call step.limit (left_step step.call step.steps step.later) step.engine step.commands step.places step.before b stands))
      (names step.before.ports) step.places
  place = own_placed step.call step.limit (left_step step.call step.steps step.later) step.engine step.commands step.places step.before b stands

  in_core : core_of new ≡ core
  in_core = same_core ∙ it.same_core

  less : n < length core.nodes
  less = slice_get_within core.nodes n (From stream) is

  coming_here : coming_at new n ≡ coming_at step.engine n ++ fed n
  coming_here = coming_now step n old new mids news stream is it result fill same_core n less

  few_at : (m : ℕ) → length (fed m) ≤ step.steps - length (coming_at step.engine m)
  few_at m = few_now step n old new mids news stream is it result fill same_core m (same_or_other m n)

  module _ (read : AreRead core step.call.source new step.commands.ended news now) (offers : List Offer) (rest : List ℕ)
      (may : MayHave core new step.commands.ended now offers rest) where
    abbrev session : Session
    session = session_of step.engine b offers

    goes_on : (m : ℕ) → m < n → is_blocked core step.call.supplies session step.steps m ≡ false
    goes_on m before = by (slice_get core.nodes m) refl
      where
        ends_so : (other : StreamC) → slice_get core.nodes m ≡ Some (From other) → HasEnough step.steps new m ⊎ HasReadAll new m
            → is_blocked core step.call.supplies session step.steps m ≡ false
        ends_so other there (inl enough) = enough_goes_on step.call stands.serving step.steps step.engine new step.commands.ended news b fed ts read stands.read.count in_core few_at
            offers rest may m other there
            (subst (λ (vs : List Value). step.steps ≤ length vs)
            (coming_now step n old new mids news stream is it result fill same_core m (slice_get_within core.nodes m (From other) there)) enough)
        ends_so other there (inr all) = all_goes_on step.call stands.serving step.steps step.engine new step.commands.ended news b fed ts read stands.read.count in_core few_at
            offers rest may m other there all

        by : (o : Option NodeC) → slice_get core.nodes m ≡ o
            → is_blocked core step.call.supplies session step.steps m ≡ false
        by (Some (From other)) there = ends_so other there
            (still_filled step n old new mids news stream is it result fill same_core m (λ same. omega (arith, before, same))
            (slice_get_within core.nodes m (From other) there) (it.filled m other before there))
        by (Some (Rules r)) there = other_goes_on step.call stands.serving step.steps step.engine new
            step.commands.ended news b fed ts read stands.read.count in_core few_at offers rest may m
            (λ input. subst IsInput there input)
        by (Some (To s)) there = other_goes_on step.call stands.serving step.steps step.engine new
            step.commands.ended news b fed ts read stands.read.count in_core few_at offers rest may m
            (λ input. subst IsInput there input)
        by None there = other_goes_on step.call stands.serving step.steps step.engine new
            step.commands.ended news b fed ts read stands.read.count in_core few_at offers rest may m
            (λ input. subst IsInput there input)

    -- the course begins with what was read, and this want
    pub course_begins : (later : Course) × (bound_of later ≡ b.port)
        × (left_step step.call step.steps step.later session rest ≡ first_do (step_wants core session step.steps (n + 1)) later)
    course_begins = step_begins core step.call.supplies session step.steps n (step.later rest) (it.begun.begins rest) less
        (blocked_by core step.call.supplies session step.steps) (blocks_from core step.call.supplies session step.steps n goes_on)

  places_of : (m : ℕ) (other : StreamC) → slice_get core.nodes m ≡ Some (From other) → names news ≡ names step.before.ports
      → (at : ℕ) × (place_of (b.port m) (names news) ≡ Some at)
  places_of m other there same = (slice_index_or step.places.streams.items m 0, ap (place_of (b.port m)) same ∙ place.streams m (From other) other there refl)

  abbrev count : ℕ
  count = b.brought n + lacking (first_session step) step.steps n

  -- a read failed

  module _ (same : names news ≡ names step.before.ports) (read : AreRead core step.call.source new step.commands.ended news now)
      (whole : HasReadWholeLines (queue_at new n)) (low : length (coming_at new n) < step.steps)
      (failure : ReadFailure (b.port n) mids news (its step n old new mids news stream is it result fill same_core) [])
      (no_room : Roomy mids [] → ⊥) (untouched : Untouched (b.port n ∷ []) mids news) where
    abbrev bytes : List ℕ
    bytes = bytes_for (b.port n) (b.taken ++ ts)

    abbrev values : List Value
    values = b.came n ++ fed n

    going : (queue_at new n).ended ≡ true → ⊥
    going over = true≢false (sym over ∙ whole.goes_on)

    right : (rest : List ℕ) → IsQueueOf core.types (type_at core n) (queue_at new n) (bytes ++ rest) values rest
    right rest = subst (λ (c : Core). IsQueueOf c.types (type_at c n) (queue_at new n) (bytes ++ rest) values rest) in_core
        ((read.right n stream is).right rest (λ over. absurd (going over)))

    few_values : (good : List Value) (bad : Option ℕ) → IsGoodUntil core.types (type_at core n) (whole_lines bytes) good bad → length good < count
    few_values good bad until =
        let given = taken_given core.types (type_at core n) (queue_at new n) bytes values whole right in
        let one = good_once core.types (type_at core n) (whole_lines bytes) good (values ++ given.0) bad None stands.serving.runnable.names until given.2 in
        let all : length good ≡ length (values ++ given.0) = ap length one.0 in
        let held : length (queue_at new n).values ≡ length given.0 = ap length given.1 ∙ length-map given.0 (flat core.types (type_at core n)) in
        let none : length (queue_at new n).values ≡ 0 = refl in
        let here : length (coming_at new n) ≡ length (coming_at step.engine n) + length (fed n) = ap length coming_here ∙ length-append (coming_at step.engine n) (fed n) in
        let brought = stands.read.count n in
        let lack : lacking (first_session step) step.steps n ≡ step.steps - length (coming_at step.engine n) = refl in
        omega (arith, lack, all, length-append values given.0, length-append (b.came n) (fed n), held, none, here, low, brought)

    is_few : (bound : Bound) → bound ≡ b.port → few bound (b.port n) count bytes
    is_few bound same_bound = record {
      of_source = λ named. absurd (no_source step n old new mids news stream is it result fill same_core (same_name (b.port n) step.call.source named));
      of_commands = λ named. absurd (no_commands step n old new mids news stream is it result fill same_core named);
      of_streams = λ accepted accepts m other there named good bad until. (
          let one = stands.serving.one accepted accepts in
          let its_node : slice_get core.nodes m ≡ Some (From other) = subst (λ (c : Core). slice_get c.nodes m ≡ Some (From other)) one there in
          let here : m ≡ n = apart step n old new mids news stream is it result fill same_core m other its_node (ap (λ (bd : Bound). bd m) (sym same_bound) ∙ named) in
          few_values good bad
          (subst (λ k. IsGoodUntil core.types (type_at core k) (whole_lines bytes) good bad) here
          (subst (λ (c : Core). IsGoodUntil c.types (type_at c m) (whole_lines bytes) good bad) one until)));
    }

    pub fill_failed : EndsCall step.call (hands_in step news) Fault
    fill_failed =
        let some = some_texts core step.call.source new step.commands.ended news now read step.places.std_in (ap (place_of std_in) same ∙ place.at_std_in)
        (λ m other there. places_of m other there same) in
        let offers : List Offer = offers_read now.taken now.firsts in
        let before = earlier_now step n old new mids news stream is it result fill same_core offers some.0 some.1 in
        let course = course_begins read offers some.0 some.1 in
        let bound : bound_of course.0 ≡ b.port = course.1 in
        let acts : List Act = step_wants core (first_session step) step.steps n in
        let want : List Act = wants (b.port n) count ∷ [] in
        let bytes_are : bytes ≡ bytes_for (b.port n) ((b.taken ++ it.ts) ++ its step n old new mids news stream is it result fill same_core) =
        ap (bytes_for (b.port n)) (sym (append_assoc b.taken it.ts (its step n old new mids news stream is it result fill same_core))) in
        let fails : Fails (few (bound_of course.0)) b.taken (acts ++ want) step.before.ports news =
        Fails-on (few (bound_of course.0)) b.taken it.ts acts want step.before.ports mids news it.made
        (want_fails (few (bound_of course.0)) (b.taken ++ it.ts) (b.port n) count (its step n old new mids news stream is it result fill same_core) mids news failure
        (only_of (b.port n) count fill.bytes)
        (subst (λ bs. few (bound_of course.0) (b.port n) count bs) bytes_are (is_few (bound_of course.0) bound)) no_room untouched) in
        stands.goes_on offers some.0 before (hands_in step news) Fault
        (subst (λ (c : Course). EndsCourse few b.taken c step.before (hands_in step news) Fault) (sym course.2)
        (fails_first few b.taken (step_wants core (session_of step.engine b offers) step.steps (n + 1)) course.0 step.before (hands_in step news)
        (record {
          fails = subst (λ (all : List Act). Fails (few (bound_of course.0)) b.taken all step.before.ports news)
              (sym (wants_now step n old new mids news stream is it result fill same_core)) fails;
          stay = refl;
        })))

  -- a bad line blocks the step

  module _ (same : names news ≡ names mids) (progress : Progress mids news (its step n old new mids news stream is it result fill same_core) [])
      (untouched : Untouched (b.port n ∷ []) mids news) (same_span : span_of new ≡ span_of old) (kept : ArePeaksKept old new) (line : ℕ)
      (bad : StandsBeforeBad new n line) (lacks : HasEnough step.steps new n → ⊥) where
    read_bad : AreRead core step.call.source new step.commands.ended news now
    read_bad = read_now step n old new mids news stream is it result fill same_core same progress.drawn

    made_bad : Made (step_wants core (first_session step) step.steps (n + 1)) ts step.before.ports news
    made_bad = subst (λ (acts : List Act). Made acts ts step.before.ports news) (sym (wants_now step n old new mids news stream is it result fill same_core))
        (Made-on (step_wants core (first_session step) step.steps n) (wants (b.port n) count ∷ []) it.ts
        (its step n old new mids news stream is it result fill same_core) step.before.ports mids news it.made
        (want_made (b.port n) count fill.bytes mids news progress untouched))

    lacks_values : length (fed n) < step.steps - length (coming_at step.engine n)
    lacks_values =
        let here : length (coming_at new n) ≡ length (coming_at step.engine n) + length (fed n) = ap length coming_here ∙ length-append (coming_at step.engine n) (fed n) in
        elim (cases_lt (length (coming_at new n)) step.steps) [
          | inl few_here ↦ omega (arith, here, few_here)
          | inr enough ↦ absurd (lacks enough)
        ]

    module _ (offers : List Offer) (rest : List ℕ) (may : MayHave core new step.commands.ended now offers rest) where
      abbrev its_session : Session
      its_session = session_of step.engine b offers

      abbrev told : (number : ℕ) × (line ≡ min number last_count) × ((step.call.supplies n (text_of (b.port n) offers)).good ≡ b.came n ++ fed n)
          × ((step.call.supplies n (text_of (b.port n) offers)).bad ≡ Some number)
      told = its_bad step.call stands.serving step.steps step.engine new step.commands.ended news b fed ts read_bad stands.read.count in_core few_at offers rest may
          n stream is line bad lacks_values

      line_is : line ≡ told.0
      line_is =
          let small = bad_number step.call stands.serving step.steps step.engine new step.commands.ended news b fed ts read_bad stands.read.count in_core few_at offers rest may
          n stream is line bad lacks_values in
          let least = it.begun.least in
          let most = it.begun.most in
          let brought = stands.read.count n in
          let limit = stands.few n in
          let came = few_at n in
          let is_line = told.1 in
          omega (arith, small, least, most, brought, limit, came, is_line, length-append (b.came n) (fed n))

      blocks : blocked_by core step.call.supplies its_session step.steps ≡ Some n
      blocks = find_first (is_blocked core step.call.supplies its_session step.steps) 0 (length core.nodes) n (omega arith) (omega (arith, less))
          (λ m least before. goes_on read_bad offers rest may m before)
          (bad_blocks step.call stands.serving step.steps step.engine new step.commands.ended news b fed ts read_bad stands.read.count in_core few_at offers rest may
          n stream is line bad lacks_values)

      pub bad_course : left_step step.call step.steps step.later its_session rest
          ≡ first_do (step_wants core its_session step.steps (n + 1)) (left_bad step.call n line (session_of new now offers) rest)
      bad_course =
          ap (λ found. step_course core step.call.supplies its_session step.steps found (step.later rest)) blocks
          ∙ ap (λ number. first_do (step_wants core its_session step.steps (n + 1) ++ tells (bad_value_line (name_of (slice_get core.nodes n)) number))
          (closed core its_session BadValue)) (ap (λ o. unwrap_or o 0) told.3 ∙ sym line_is)
          ∙ sym (first_in_turn (step_wants core its_session step.steps (n + 1)) (tells (bad_value_line (name_of (slice_get core.nodes n)) line)) (closed core its_session BadValue))

    pub fill_blocked : IsBlockedAt step n line new news
    fill_blocked = record {
      bindings = now;
      stands = record {
        serving = stands.serving;
        rests = record {
          is_core = in_core;
          is_span = same_span ∙ it.same_span;
          parts = subst (IsStateOf core) (sym (state_now step n old new mids news stream is it result fill same_core))
              (filled_parts core (state_of step.engine) fed stands.rests.parts);
          cleared = ap (λ (s : State). s.taken) (state_now step n old new mids news stream is it result fill same_core) ∙ stands.rests.cleared;
          heap = λ m. kept.heap m ∙ it.peaks.heap m ∙ stands.rests.heap m;
          stack = λ m. kept.stack m ∙ it.peaks.stack m ∙ stands.rests.stack m;
        };
        read = read_bad;
        are = bytes_for-append std_in b.taken ts
            ∙ ap (λ (bs : List ℕ). bytes_for std_in b.taken ++ bs) (no_commands_now step n old new mids news stream is it result fill same_core)
            ∙ append-nil (bytes_for std_in b.taken) ∙ stands.are;
        placed = λ offers named. subst (λ ns. ArePlaced core step.call.source (session_of new now offers) ns step.places) (sym names_same)
            (placed_as core step.call.source (session_of step.engine b offers) (session_of new now offers) (names step.before.ports) step.places refl (named ∙ names_same)
            (stands.placed offers (named ∙ names_same)));
        few = λ m. (
            let limit = stands.few m in
            let more = few_at m in
            let least = it.begun.least in
            omega (arith, limit, more, least));
        bounds = λ session rest. refl;
        goes_on = λ offers rest may last ending ends. stands.goes_on offers rest
            (earlier_now step n old new mids news stream is it result fill same_core offers rest may) last ending
            (subst (λ (c : Course). EndsCourse few b.taken c step.before last ending) (sym (bad_course offers rest may))
            (made_first few b.taken ts (step_wants core (session_of step.engine b offers) step.steps (n + 1)) step.before (hands_in step news)
            (record { made = made_bad; stay = refl }) (left_bad step.call n line (session_of new now offers) rest) last ending ends));
      };
    }
      where
        names_same : names news ≡ names step.before.ports
        names_same = same ∙ it.made.progress.same_names
