-- Where a call stands once a step is made.
use Rattle.std.proofs.Common.{◌≡◌, ◌⊎◌, ℕ, ◌+◌, ◌≤◌, max, false, List, [], ◌++◌, length, refl, ap, sym, ◌∙◌, subst, inl, inr, append-nil, arith, Option, None, Some}
use Rattle.std.specs.Prelude.{slice_get, slice_index_or}
use Rattle.std.proofs.Math.Path.{fun_ext}
use Rattle.std.proofs.lemmas.Option.{slice_get_within}
use Rattle.hume_base.specs.declared.types.Value.{Value}
use Rattle.hume_model.specs.declared.core_tree.NodeC.{NodeC}
use Rattle.hume_model.specs.declared.core_tree.NodeC.TheVariants.{Rules, From, To}
use Rattle.hume_model.specs.declared.core_tree.Core.{Core}
use Rattle.hume_net.specs.declared.state.State.{State}
use Rattle.hume_net.specs.Lockstep.{lockstep}
use Rattle.hume_net.specs.Nodes.{IsInput}
use Rattle.hume_net.specs.Parts.{IsStateOf}
use Rattle.hume_net.specs.Sides.{part_of}
use Rattle.hume_net.specs.Start.{no_values}
use Rattle.hume_net.proofs.StatePlaces.{lockstep_state}
use Rattle.hume_net.proofs.Starts.{length-numbered}
use Rattle.hume_ports.specs.Port.{PortView}
use Rattle.hume_ports.specs.Ports.{names, place_of}
use Rattle.hume_ports.specs.Delivery.{Pairs, Drawn, bytes_for}
use Rattle.hume_ports.proofs.Names.{bytes_for-append}
use Rattle.hume_ports.proofs.Progress.{Drawn-on}
use Rattle.port_acts.specs.Acts.{Act, write_each}
use Rattle.port_acts.specs.Ends.{Fails, Made, never}
use Rattle.port_acts.proofs.Failing.{Fails-any, Fails-on}
use Rattle.port_acts.proofs.Making.{Made-on}
use Rattle.box_costs.specs.Costs.{either}
use Rattle.net_costs.specs.Steps.{peaks}
use Rattle.hume_streams.specs.Queues.{QueueView}
use Rattle.phase_workers.specs.Engines.{EngineView as Engine}
use Rattle.phase_workers.specs.Engines.{coming_at, core_of, heap_peak_at, queue_at, span_of, stack_peak_at, state_of}
use Rattle.phase_workers.specs.NodeFills.{HasEnough, HasReadAll}
use Rattle.phase_workers.specs.RightQueues.{IsRightBehind}
use Rattle.phase_workers.specs.StreamTypes.{type_at}
use Rattle.run_rounds.specs.declared.rounds.TheConstants.{SPAN}
use Rattle.run_rounds.proofs.Ranges.{same_flat}
use Rattle.hume_console.specs.declared.ending.Ending.TheVariants.{Fault}
use Rattle.hume_console.specs.Words.{std_in}
use Rattle.hume_console.specs.Courses.{Course, first_do, EndsCourse}
use Rattle.hume_console.specs.inner.Bounds.{bound_of}
use Rattle.hume_console.specs.Headline.{session_few}
use Rattle.hume_console.specs.Serving.{lines_of_node, step_course, step_lines, step_wants}
use Rattle.hume_console.specs.Session.{Session, Offer, after_steps, blocked_by, coming_in, filled, is_blocked, stepped}
use Rattle.hume_console.specs.inner.Exchanging.{left_later}
use Rattle.hume_console.specs.inner.Placed.{ArePlaced}
use Rattle.hume_console.specs.inner.Standing.{AreRead, Bindings, EndsCall, GoesOn, MayHave, Stands, session_of}
use Rattle.hume_console.specs.inner.Stepping.{StandsFilling, Step, filled_bindings, hands_in, left_step, lines_at, lines_of_all}
use Rattle.hume_console.proofs.CourseSteps.{fails_first, made_first}
use Rattle.hume_console.proofs.FedStates.{filled_coming, filled_parts, same_fed}
use Rattle.hume_console.proofs.Offers.{offers_read}
use Rattle.hume_console.proofs.SomeTexts.{some_texts}
use Rattle.hume_console.proofs.Standings.{own_placed, placed_as}
use Rattle.hume_console.proofs.StepFilling.{first_session}
use Rattle.hume_console.proofs.StepSupplied.{all_came, all_goes_on, enough_came, enough_goes_on, find_none, none_came, other_goes_on}

module _ (step : Step) (filled_engine : Engine) (mids : List PortView) (it : StandsFilling step (length step.call.core.nodes) filled_engine mids) where
  abbrev core : Core
  core = step.call.core

  abbrev b : Bindings
  b = step.bindings

  abbrev now : Bindings
  now = filled_bindings b it.fed it.ts

  abbrev stands : Stands step.call step.limit (left_step step.call step.steps step.later) step.engine step.commands step.places step.before b
  stands = it.begun.stands

  abbrev net : State
  net = state_of filled_engine

  module _ (offers : List Offer) (rest : List ℕ) (may : MayHave core filled_engine step.commands.ended now offers rest) where
    abbrev session : Session
    session = session_of step.engine b offers

    came_at : (n : ℕ) → (o : Option NodeC) → slice_get core.nodes n ≡ o
        → (coming_in core step.call.supplies session step.steps n ≡ it.fed n) × (is_blocked core step.call.supplies session step.steps n ≡ false)
    came_at n (Some (From stream)) is = by (it.filled n stream (slice_get_within core.nodes n (From stream) is) is)
      where
        coming : coming_at filled_engine n ≡ coming_at step.engine n ++ it.fed n
        coming = ap (λ (s : State). (part_of s n).coming) it.state
            ∙ filled_coming core (state_of step.engine) it.fed n (slice_get_within core.nodes n (From stream) is)

        by : HasEnough step.steps filled_engine n ⊎ HasReadAll filled_engine n
            → (coming_in core step.call.supplies session step.steps n ≡ it.fed n) × (is_blocked core step.call.supplies session step.steps n ≡ false)
        by (inl enough) =
            let all = subst (λ (vs : List Value). step.steps ≤ length vs) coming enough in (
              enough_came step.call stands.serving step.steps step.engine filled_engine step.commands.ended mids b it.fed it.ts it.read stands.read.count it.same_core
                  it.few offers rest may n stream is all,
              enough_goes_on step.call stands.serving step.steps step.engine filled_engine step.commands.ended mids b it.fed it.ts it.read stands.read.count it.same_core
                  it.few offers rest may n stream is all,
            )
        by (inr all) = (
          all_came step.call stands.serving step.steps step.engine filled_engine step.commands.ended mids b it.fed it.ts it.read stands.read.count it.same_core
              it.few offers rest may n stream is all,
          all_goes_on step.call stands.serving step.steps step.engine filled_engine step.commands.ended mids b it.fed it.ts it.read stands.read.count it.same_core
              it.few offers rest may n stream is all,
        )
    came_at n (Some (Rules r)) is = none_at n (λ input. subst IsInput is input)
      where
        none_at : (m : ℕ) → (IsInput (slice_get core.nodes m) → ⊥)
            → (coming_in core step.call.supplies session step.steps m ≡ it.fed m) × (is_blocked core step.call.supplies session step.steps m ≡ false)
        none_at m other = (
          none_came step.call stands.serving step.steps step.engine filled_engine step.commands.ended mids b it.fed it.ts it.read stands.read.count it.same_core
              it.few offers rest may m other ∙ sym (it.none m other),
          other_goes_on step.call stands.serving step.steps step.engine filled_engine step.commands.ended mids b it.fed it.ts it.read stands.read.count it.same_core
              it.few offers rest may m other,
        )
    came_at n (Some (To stream)) is =
        let other : IsInput (slice_get core.nodes n) → ⊥ = λ input. subst IsInput is input in (
          none_came step.call stands.serving step.steps step.engine filled_engine step.commands.ended mids b it.fed it.ts it.read stands.read.count it.same_core
              it.few offers rest may n other ∙ sym (it.none n other),
          other_goes_on step.call stands.serving step.steps step.engine filled_engine step.commands.ended mids b it.fed it.ts it.read stands.read.count it.same_core
              it.few offers rest may n other,
        )
    came_at n None is =
        let other : IsInput (slice_get core.nodes n) → ⊥ = λ input. subst IsInput is input in (
          none_came step.call stands.serving step.steps step.engine filled_engine step.commands.ended mids b it.fed it.ts it.read stands.read.count it.same_core
              it.few offers rest may n other ∙ sym (it.none n other),
          other_goes_on step.call stands.serving step.steps step.engine filled_engine step.commands.ended mids b it.fed it.ts it.read stands.read.count it.same_core
              it.few offers rest may n other,
        )

    pub comes : (n : ℕ) → coming_in core step.call.supplies session step.steps n ≡ it.fed n
    comes n = (came_at n (slice_get core.nodes n) refl).0

    pub not_blocked : blocked_by core step.call.supplies session step.steps ≡ None
    not_blocked = find_none (is_blocked core step.call.supplies session step.steps) 0 (length core.nodes) (λ n least most. (came_at n (slice_get core.nodes n) refl).1)

    pub filled_is : filled core step.call.supplies session step.steps ≡ net
    filled_is =
        same_fed core (state_of step.engine) (coming_in core step.call.supplies session step.steps) it.fed (λ n less. comes n) ∙ sym it.state

    lines_same : (n : ℕ) (values : List Value) (o : Option NodeC) → lines_of_node core session (λ m. values) n o ≡ lines_at core (b.port n) n o values
    lines_same n values None = refl
    lines_same n values (Some (Rules r)) = refl
    lines_same n values (Some (From stream)) = refl
    lines_same n values (Some (To stream)) = refl

    node_lines : (taken : ℕ → List Value) (n : ℕ) (o : Option NodeC) → lines_of_node core session taken n o ≡ lines_of_node core session (λ m. taken n) n o
    node_lines taken n None = refl
    node_lines taken n (Some (Rules r)) = refl
    node_lines taken n (Some (From stream)) = refl
    node_lines taken n (Some (To stream)) = refl

    -- the lines of the step are those of what the net has taken
    pub lines_are : step_lines core session (λ n. (part_of (after_steps core step.call.supplies session step.steps) n).taken)
        ≡ lines_of_all core b.port (lockstep core net step.steps)
    lines_are =
        ap (λ (s : State). step_lines core session (λ n. (part_of (lockstep core s step.steps) n).taken)) filled_is
        ∙ same_flat (λ n. lines_of_node core session (λ m. (part_of (lockstep core net step.steps) m).taken) n (slice_get core.nodes n))
        (λ n. lines_at core (b.port n) n (slice_get core.nodes n) (part_of (lockstep core net step.steps) n).taken) 0 (length core.nodes)
        (λ n least most. node_lines (λ m. (part_of (lockstep core net step.steps) m).taken) n (slice_get core.nodes n)
        ∙ lines_same n (part_of (lockstep core net step.steps) n).taken (slice_get core.nodes n))

  -- the lines that output streams owe
  abbrev pub owed_lines : List Act
  owed_lines = write_each (lines_of_all core b.port (lockstep core net step.steps))

  abbrev pub all_acts : List Act
  all_acts = step_wants core (first_session step) step.steps (length core.nodes) ++ owed_lines

  pub made_course : (offers : List Offer) (rest : List ℕ) → MayHave core filled_engine step.commands.ended now offers rest
      → left_step step.call step.steps step.later (session_of step.engine b offers) rest
      ≡ first_do all_acts (step.later rest (stepped core step.call.supplies (session_of step.engine b offers) step.steps))
  made_course offers rest may =
      let session : Session = session_of step.engine b offers in
      ap (λ found. step_course core step.call.supplies session step.steps found (step.later rest)) (not_blocked offers rest may)
      ∙ ap (λ (lines : Pairs). first_do (step_wants core session step.steps (length core.nodes) ++ write_each lines)
      (step.later rest (stepped core step.call.supplies session step.steps))) (lines_are offers rest may)

  -- a line could not be written
  pub line_failed : (news : List PortView) → Fails never [] owed_lines mids news → EndsCall step.call (hands_in step news) Fault
  line_failed news fails =
      let place = own_placed step.call step.limit (left_step step.call step.steps step.later) step.engine step.commands step.places step.before b stands in
      let same : names mids ≡ names step.before.ports = it.made.progress.same_names in
      let some = some_texts core step.call.source filled_engine step.commands.ended mids now it.read step.places.std_in
      (ap (place_of std_in) same ∙ place.at_std_in)
      (λ m other there. (
        slice_index_or step.places.streams.items m 0,
        ap (place_of (b.port m)) same ∙ place.streams m (From other) other there refl,
      )) in
      let offers : List Offer = offers_read now.taken now.firsts in
      let later : Course = step.later some.0 (stepped core step.call.supplies (session_of step.engine b offers) step.steps) in
      let few = session_few step.call.source step.call.text (bound_of later) in
      stands.goes_on offers some.0 (it.earlier offers some.0 some.1) (hands_in step news) Fault
      (subst (λ (c : Course). EndsCourse (session_few step.call.source step.call.text) b.taken c step.before (hands_in step news) Fault)
      (sym (made_course offers some.0 some.1))
      (fails_first (session_few step.call.source step.call.text) b.taken all_acts later step.before (hands_in step news)
      (record {
        fails = Fails-on few b.taken it.ts (step_wants core (first_session step) step.steps (length core.nodes)) owed_lines step.before.ports mids news it.made
            (Fails-any few (b.taken ++ it.ts) owed_lines mids news fails);
        stay = refl;
      })))

  -- the step was made, and its lines written
  module _ (engine : Engine) (news : List PortView) (same_core : core_of engine ≡ core) (same_span : span_of engine ≡ SPAN)
      (queues : (n : ℕ) → queue_at engine n ≡ queue_at filled_engine n)
      (heap : (n : ℕ) → heap_peak_at engine n ≡ max (heap_peak_at filled_engine n) (peaks core net step.steps n).heap)
      (stack : (n : ℕ) → stack_peak_at engine n ≡ max (stack_peak_at filled_engine n) (peaks core net step.steps n).stack)
      (state : state_of engine ≡ record (lockstep core net step.steps) { taken = no_values core }) (made : Made owed_lines [] mids news) where
    abbrev last : Bindings
    last = record now { peaks = λ n. either (b.peaks n) (peaks core net step.steps n) }

    ended_same : (n : ℕ) → (queue_at engine n).ended ≡ (queue_at filled_engine n).ended
    ended_same n = ap (λ (q : QueueView). q.ended) (queues n)

    read_last : AreRead core step.call.source engine step.commands.ended news last
    read_last = record {
      same_names = made.progress.same_names ∙ it.read.same_names;
      drawn = subst (Drawn b.firsts news) (append-nil now.taken) (Drawn-on b.firsts mids news now.taken [] it.read.drawn it.read.same_names made.progress.drawn);
      right = λ n stream is.
          subst (λ (c : Core). IsRightBehind c.types (type_at c n) (queue_at engine n) (bytes_for (b.port n) now.taken) (now.came n)) (it.same_core ∙ sym same_core)
          (subst (λ q. IsRightBehind (core_of filled_engine).types (type_at (core_of filled_engine) n) q (bytes_for (b.port n) now.taken) (now.came n)) (sym (queues n))
          (it.read.right n stream is));
      count = it.read.count;
      told = λ n stream is over. it.read.told n stream is (sym (ended_same n) ∙ over);
      commands_told = it.read.commands_told;
      others = it.read.others;
    }

    may_before : (offers : List Offer) (rest : List ℕ) → MayHave core engine step.commands.ended last offers rest
        → MayHave core filled_engine step.commands.ended now offers rest
    may_before offers rest may = record {
      told = may.told;
      commands = may.commands;
      over = may.over;
      streams = λ n stream is. (let m = may.streams n stream is in (m.0, (λ over. m.1 (ended_same n ∙ over)), m.2));
    }

    session_is : (offers : List Offer) (rest : List ℕ) → MayHave core filled_engine step.commands.ended now offers rest
        → stepped core step.call.supplies (session_of step.engine b offers) step.steps ≡ session_of engine last offers
    session_is offers rest may =
        let session : Session = session_of step.engine b offers in
        let is = filled_is offers rest may in
        λ i. record {
          net = (ap (λ (s : State). record (lockstep core s step.steps) { taken = no_values core }) is ∙ sym state) i;
          peaks = ap (λ (s : State). λ n. either (b.peaks n) (peaks core s step.steps n)) is i;
          port = b.port;
          brought = fun_ext (λ n. ap (λ (vs : List Value). b.brought n + length vs) (comes offers rest may n)) i;
          ports = offers;
        }

    all_made : Made all_acts it.ts step.before.ports news
    all_made = subst (λ (us : Pairs). Made all_acts us step.before.ports news) (append-nil it.ts)
        (Made-on (step_wants core (first_session step) step.steps (length core.nodes)) owed_lines it.ts [] step.before.ports mids news it.made made)

    pub step_made : GoesOn step.call (step.limit + 64) (left_later step.later) engine step.commands step.places (hands_in step news)
    step_made = record {
      bindings = last;
      stands = record {
        serving = stands.serving;
        rests = record {
          is_core = same_core;
          is_span = same_span;
          parts = subst (IsStateOf core) (sym state) parts_last;
          cleared = ap (λ (s : State). s.taken) state;
          heap = λ n. heap n ∙ ap (λ most. max most (peaks core net step.steps n).heap) (it.peaks.heap n ∙ stands.rests.heap n);
          stack = λ n. stack n ∙ ap (λ most. max most (peaks core net step.steps n).stack) (it.peaks.stack n ∙ stands.rests.stack n);
        };
        read = read_last;
        are = bytes_for-append std_in b.taken it.ts ∙ ap (λ (bs : List ℕ). bytes_for std_in b.taken ++ bs) it.no_commands
            ∙ append-nil (bytes_for std_in b.taken) ∙ stands.are;
        placed = λ offers named. subst (λ ns. ArePlaced core step.call.source (session_of engine last offers) ns step.places) (sym names_same)
            (placed_as core step.call.source (session_of step.engine b offers) (session_of engine last offers) (names step.before.ports) step.places refl
            (named ∙ names_same) (stands.placed offers (named ∙ names_same)));
        few = λ n. (
            let limit = stands.few n in
            let more = it.few n in
            let least = it.begun.least in
            omega (arith, limit, more, least));
        bounds = λ session rest. it.begun.begins rest session;
        goes_on = λ offers rest may new ending ends.
            let may_then = may_before offers rest may in
            stands.goes_on offers rest (it.earlier offers rest may_then) new ending
            (subst (λ (c : Course). EndsCourse (session_few step.call.source step.call.text) b.taken c step.before new ending) (sym (made_course offers rest may_then))
            (made_first (session_few step.call.source step.call.text) b.taken it.ts all_acts step.before (hands_in step news) (record { made = all_made; stay = refl })
            (step.later rest (stepped core step.call.supplies (session_of step.engine b offers) step.steps)) new ending
            (subst (λ (s : Session). EndsCourse (session_few step.call.source step.call.text) now.taken (step.later rest s) (hands_in step news) new ending)
            (sym (session_is offers rest may_then)) ends)));
      };
    }
      where
        names_same : names news ≡ names step.before.ports
        names_same = made.progress.same_names ∙ it.made.progress.same_names

        stepped_parts : IsStateOf core (lockstep core net step.steps)
        stepped_parts = lockstep_state core net (subst (IsStateOf core) (sym it.state) (filled_parts core (state_of step.engine) it.fed stands.rests.parts)) step.steps

        parts_last : IsStateOf core (record (lockstep core net step.steps) { taken = no_values core })
        parts_last = record {
          wires = stepped_parts.wires;
          pending = stepped_parts.pending;
          orders = stepped_parts.orders;
          coming = stepped_parts.coming;
          taken = length-numbered (length core.nodes) (λ n. []);
        }
