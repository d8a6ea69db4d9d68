-- How a session goes on after what a line asks for.
use Rattle.std.proofs.Common.{◌≡◌, ℕ, ◌+◌, ◌≤◌, Bool, true, false, List, [], ◌∷◌, length, refl, sym, ◌∙◌, subst, arith, Option, None, Some, Result, Ok, Err}
use Rattle.std.specs.Prelude.{OnOk, slice_get}
use Rattle.hume_model.specs.declared.core_tree.NodeC.{NodeC}
use Rattle.hume_model.specs.declared.core_tree.NodeC.TheVariants.{Rules, From, To}
use Rattle.hume_model.specs.declared.core_tree.Core.{Core}
use Rattle.hume_net.specs.Sides.{on_wire}
use Rattle.box_costs.specs.declared.cost.Cost.{Cost}
use Rattle.hume_ports.specs.declared.port.Failed.{Failed}
use Rattle.hume_ports.specs.Port.{PortView}
use Rattle.hume_ports.specs.Ports.{names}
use Rattle.hume_calls.proofs.FitPorts.{found_place}
use Rattle.hume_text.specs.declared.chunk.Chunk.{Chunk}
use Rattle.hume_text.specs.Chunks.{room_of}
use Rattle.port_acts.specs.Acts.{Act, write_each, writes}
use Rattle.port_acts.specs.Ends.{Ends, never}
use Rattle.port_acts.specs.Places.{IsPlaceOf}
use Rattle.phase_workers.specs.Engines.{EngineView as Engine}
use Rattle.phase_workers.specs.Engines.{core_of, state_of}
use Rattle.phase_workers.specs.Runnable.{IsRunnable}
use Rattle.trace_print.specs.InTurn.{lines_to}
use Rattle.trace_print.specs.Rooms.{line_room}
use Rattle.trace_print.specs.TraceLines.{peak_lines, peak_there, wire_lines}
use Rattle.run_rounds.specs.declared.bad_line.BadLine.{BadLine}
use Rattle.run_rounds.specs.declared.rounds.TheConstants.{SPAN}
use Rattle.run_rounds.specs.Streams.{std_out}
use Rattle.run_rounds.specs.Telling.{tops}
use Rattle.run_rounds.specs.Writes.{bad_value_line, name_of, told}
use Rattle.run_rounds.proofs.Ranges.{same_flat}
use Rattle.hume_console.specs.declared.answering.Turn.{Turn}
use Rattle.hume_console.specs.declared.answering.Turn.TheVariants.{Continues, Ends as EndsWith}
use Rattle.hume_console.specs.declared.ending.Ending.TheVariants.{BadValue, Done, Fault}
use Rattle.hume_console.specs.declared.places.Places.{Places}
use Rattle.hume_console.specs.Commands.{Command, End, Peaks, Step as StepAsked, Wires, no_command_line, no_exchange_line}
use Rattle.hume_console.specs.Courses.{Course, first_do}
use Rattle.hume_console.specs.Hands.{Hands}
use Rattle.hume_console.specs.Session.{Session, Offer}
use Rattle.hume_console.specs.inner.Answering.{EndsAnswer, HasRooms, IsMoment, Moment, left_asked, left_closed, turn_of}
use Rattle.hume_console.specs.inner.Exchanging.{EndsExchange, left_later, left_refusal}
use Rattle.hume_console.specs.inner.Placed.{ArePlaced}
use Rattle.hume_console.specs.inner.Standing.{BeginsAsItIs, Bindings, Call, Commands, EndsCall, GoesOn, Later, Stands, session_of}
use Rattle.hume_console.specs.inner.Stepping.{EndsStep, IsBefore, IsBlockedAt, Step, left_bad}
use Rattle.hume_console.proofs.ExchangeMade.{relabelled}
use Rattle.hume_console.proofs.Standings.{hands_with, own_offers, own_placed, unwritten, written}

-- more values may have come
pub roomier : (call : Call) (limit more : ℕ) (left : Session → List ℕ → Course) (engine : Engine) (commands : Commands) (places : Places) (now : Hands) (b : Bindings)
    → limit ≤ more → Stands call limit left engine commands places now b → Stands call more left engine commands places now b
roomier call limit more left engine commands places now b less stands = record {
  serving = stands.serving;
  rests = stands.rests;
  read = stands.read;
  are = stands.are;
  placed = stands.placed;
  few = λ n. (let few = stands.few n in omega (arith, few, less));
  bounds = stands.bounds;
  goes_on = stands.goes_on;
}

pub rooms_after : (old new : Engine) (chunk later : Chunk) → HasRooms old chunk → core_of new ≡ core_of old → room_of later ≡ room_of chunk → HasRooms new later
rooms_after old new chunk later rooms same room =
    let values = rooms.values in
    let others = rooms.others in
    let lines : line_room (core_of new) ≤ room_of chunk = subst (λ (c : Core). line_room c ≤ room_of chunk) (sym same) rooms.lines in
    record { values = omega (arith, values, room); lines = omega (arith, lines, room); others = omega (arith, others, room) }

-- wherever the call stands

module _ (call : Call) (limit : ℕ) (left : Session → List ℕ → Course) (engine : Engine) (commands : Commands) (places : Places) (now : Hands) (b : Bindings)
    (stands : Stands call limit left engine commands places now b) where
  place : ArePlaced call.core call.source (session_of engine b (own_offers call limit left engine commands places now b stands)) (names now.ports) places
  place = own_placed call limit left engine commands places now b stands

  -- the place of `std_out`
  pub out_place : IsPlaceOf std_out (names now.ports) places.std_out
  out_place = found_place std_out (names now.ports) places.std_out place.at_std_out

  pub is_runnable : IsRunnable (core_of engine)
  is_runnable = subst IsRunnable (sym stands.rests.is_core) stands.serving.runnable

  pub are_placed : (source : List ℕ) × (session : Session) × ArePlaced (core_of engine) source session (names now.ports) places
  are_placed = (
    call.source,
    session_of engine b (own_offers call limit left engine commands places now b stands),
    subst (λ (c : Core). ArePlaced c call.source (session_of engine b (own_offers call limit left engine commands places now b stands)) (names now.ports) places)
        (sym stands.rests.is_core) place,
  )

-- the core of the engine stays
pub goes_core : (call : Call) (limit : ℕ) (left : Session → List ℕ → Course) (engine : Engine) (commands : Commands) (places : Places) (now : Hands)
    → GoesOn call limit left engine commands places now → core_of engine ≡ call.core
goes_core call limit left engine commands places now goes = goes.stands.rests.is_core

pub answer_core : (call : Call) (limit : ℕ) (later : Later) (engine : Engine) (commands : Commands) (places : Places) (now : Hands) (result : Result Turn Failed)
    → EndsAnswer call limit later engine commands places now result → OnOk result (core_of engine ≡ call.core)
answer_core call limit later engine commands places now (Ok Continues) ends = ends.stands.rests.is_core
answer_core call limit later engine commands places now (Ok (EndsWith ending)) ends = ends.stands.rests.is_core
answer_core call limit later engine commands places now (Err failed) ends = tt

-- a turn after which there is room
pub answer_rooms : (call : Call) (limit : ℕ) (later : Later) (old new : Engine) (commands : Commands) (places : Places) (now : Hands) (chunk then : Chunk)
    (result : Result Turn Failed) → HasRooms old chunk → core_of old ≡ call.core → room_of then ≡ room_of chunk
    → EndsAnswer call limit later new commands places now result → OnOk result (HasRooms new then)
answer_rooms call limit later old new commands places now chunk then (Ok Continues) rooms same room ends =
    rooms_after old new chunk then rooms (ends.stands.rests.is_core ∙ sym same) room
answer_rooms call limit later old new commands places now chunk then (Ok (EndsWith ending)) rooms same room ends =
    rooms_after old new chunk then rooms (ends.stands.rests.is_core ∙ sym same) room
answer_rooms call limit later old new commands places now chunk then (Err failed) rooms same room ends = tt

-- a turn that is another's
pub turn_as : (call : Call) (limit : ℕ) (later : Later) (engine : Engine) (commands : Commands) (places : Places) (now : Hands) (turn other : Result Turn Failed)
    → turn ≡ other → EndsAnswer call limit later engine commands places now other → EndsAnswer call limit later engine commands places now turn
turn_as call limit later engine commands places now turn other is ends = subst (EndsAnswer call limit later engine commands places now) (sym is) ends

-- what the line asks for, read another way
pub asked_as : (m : Moment) (number : ℕ) (asked other : Option Command) (engine : Engine) (places : Places) (now : Hands) → asked ≡ other
    → IsMoment m (left_asked m.call number asked m.later) engine places now → IsMoment m (left_asked m.call number other m.later) engine places now
asked_as m number asked other engine places now same at = subst (λ a. IsMoment m (left_asked m.call number a m.later) engine places now) same at

-- lines that are told

module _ (m : Moment) (left : Session → List ℕ → Course) (engine : Engine) (places : Places) (now : Hands) (at : IsMoment m left engine places now)
    (acts : List Act) (same : (offers : List Offer) (rest : List ℕ)
    → left (session_of engine m.bindings offers) rest ≡ first_do acts (m.later rest (session_of engine m.bindings offers))) (news : List PortView) where
  pub told_answer : (written_so : Result (Unit {0}) Failed) → Ends never [] acts [] now.ports news written_so
      → EndsAnswer m.call (m.limit + 64) m.later engine m.commands places (hands_with now news) (turn_of written_so)
  told_answer (Ok done) made = record {
    bindings = m.bindings;
    stands = roomier m.call m.limit (m.limit + 64) (left_later m.later) engine m.commands places (hands_with now news) m.bindings (omega arith)
        (written m.call m.limit left engine m.commands places now m.bindings at.stands acts news (left_later m.later) same made (λ session rest. at.begins rest session));
  }
  told_answer (Err failed) fails = unwritten m.call m.limit left engine m.commands places now m.bindings at.stands acts news (left_later m.later) same fails

module _ (m : Moment) (number : ℕ) (engine : Engine) (places : Places) (now : Hands) where
  in_core : {left : Session → List ℕ → Course} → IsMoment m left engine places now → core_of engine ≡ m.call.core
  in_core at = at.stands.rests.is_core

  pub no_command_answer : IsMoment m (left_asked m.call number None m.later) engine places now → (news : List PortView) (result : Result (Unit {0}) Failed)
      → Ends never [] (writes std_out (no_command_line number) ∷ []) [] now.ports news result
      → EndsAnswer m.call (m.limit + 64) m.later engine m.commands places (hands_with now news) (turn_of result)
  no_command_answer at news result ends = told_answer m (left_asked m.call number None m.later) engine places now at (writes std_out (no_command_line number) ∷ [])
      (λ offers rest. refl) news result ends

  pub wires_answer : IsMoment m (left_asked m.call number (Some Wires) m.later) engine places now → (news : List PortView) (result : Result (Unit {0}) Failed)
      → Ends never [] (write_each (told (wire_lines (core_of engine) (on_wire (state_of engine))))) [] now.ports news result
      → EndsAnswer m.call (m.limit + 64) m.later engine m.commands places (hands_with now news) (turn_of result)
  wires_answer at news result ends = told_answer m (left_asked m.call number (Some Wires) m.later) engine places now at
      (lines_to std_out (wire_lines m.call.core (on_wire (state_of engine)))) (λ offers rest. refl) news result
      (subst (λ (c : Core). Ends never [] (lines_to std_out (wire_lines c (on_wire (state_of engine)))) [] now.ports news result) at.stands.rests.is_core ends)

  peak_same : (node : Option NodeC) (p q : Cost) → p.heap ≡ q.heap → p.stack ≡ q.stack → peak_there p node ≡ peak_there q node
  peak_same None p q heap stack = refl
  peak_same (Some (Rules b)) p q heap stack = rw (heap, stack) refl
  peak_same (Some (From stream)) p q heap stack = refl
  peak_same (Some (To stream)) p q heap stack = refl

  pub peaks_answer : IsMoment m (left_asked m.call number (Some Peaks) m.later) engine places now → (news : List PortView) (result : Result (Unit {0}) Failed)
      → Ends never [] (write_each (told (peak_lines (core_of engine) (tops engine)))) [] now.ports news result
      → EndsAnswer m.call (m.limit + 64) m.later engine m.commands places (hands_with now news) (turn_of result)
  peaks_answer at news result ends =
      let lines : peak_lines m.call.core (tops engine) ≡ peak_lines m.call.core m.bindings.peaks =
      same_flat (λ n. peak_there (tops engine n) (slice_get m.call.core.nodes n)) (λ n. peak_there (m.bindings.peaks n) (slice_get m.call.core.nodes n)) 0
      (length m.call.core.nodes)
      (λ n least most. peak_same (slice_get m.call.core.nodes n) (tops engine n) (m.bindings.peaks n) (at.stands.rests.heap n) (at.stands.rests.stack n)) in
      told_answer m (left_asked m.call number (Some Peaks) m.later) engine places now at
      (lines_to std_out (peak_lines m.call.core m.bindings.peaks)) (λ offers rest. refl) news result
      (subst (λ (ls : List (List ℕ)). Ends never [] (lines_to std_out ls) [] now.ports news result) lines
      (subst (λ (c : Core). Ends never [] (lines_to std_out (peak_lines c (tops engine))) [] now.ports news result) at.stands.rests.is_core ends))

  pub end_answer : IsMoment m (left_asked m.call number (Some End) m.later) engine places now
      → EndsAnswer m.call (m.limit + 64) m.later engine m.commands places now (Ok (EndsWith Done))
  end_answer at = record {
    bindings = m.bindings;
    stands = roomier m.call m.limit (m.limit + 64) (left_closed m.call Done) engine m.commands places now m.bindings (omega arith)
        (relabelled m.call m.limit (left_asked m.call number (Some End) m.later) (left_closed m.call Done) engine m.commands places now m.bindings at.stands
        (λ offers rest named. refl) (λ session rest. refl));
  }

  -- a step

  module _ (steps : ℕ) (at : IsMoment m (left_asked m.call number (Some (StepAsked steps)) m.later) engine places now) (least : steps ≤ SPAN) where
    abbrev pub its_step : Step
    its_step = record {
      call = m.call;
      limit = m.limit;
      steps = steps;
      later = m.later;
      engine = engine;
      commands = m.commands;
      places = places;
      before = now;
      bindings = m.bindings;
    }

    pub step_before : IsBefore its_step steps places engine now.ports
    step_before = record {
      is_steps = refl;
      are_places = refl;
      is_engine = refl;
      are_ports = refl;
      stands = record { begins = at.begins; stands = at.stands; least = least; most = at.most };
    }

    module _ (after : Engine) (mids : List PortView) (result : Result (Option BadLine) Failed) (ends : EndsStep its_step after mids result) where
      pub step_answer : result ≡ Ok None → EndsAnswer m.call (m.limit + 64) m.later after m.commands places (hands_with now mids) (Ok Continues)
      step_answer is = subst (EndsStep its_step after mids) is ends

      pub step_failed : (failed : Failed) → result ≡ Err failed → EndsCall m.call (hands_with now mids) Fault
      step_failed failed is = subst (EndsStep its_step after mids) is ends

      module _ (bad : BadLine) (is : result ≡ Ok (Some bad)) where
        pub blocked : IsBlockedAt its_step bad.node bad.line after mids
        blocked = subst (EndsStep its_step after mids) is ends

        abbrev act : List Act
        act = writes std_out (bad_value_line (name_of (slice_get m.call.core.nodes bad.node)) bad.line) ∷ []

        told_as : (its : Core) → its ≡ core_of after → (news : List PortView) (how : Result (Unit {0}) Failed)
            → Ends never [] (writes std_out (bad_value_line (name_of (slice_get its.nodes bad.node)) bad.line) ∷ []) [] mids news how
            → Ends never [] act [] mids news how
        told_as its its_is news how ended = subst (λ (c : Core). Ends never [] (writes std_out (bad_value_line (name_of (slice_get c.nodes bad.node)) bad.line) ∷ []) [] mids news how)
            (its_is ∙ blocked.stands.rests.is_core) ended

        pub bad_answer : (its : Core) → its ≡ core_of after → (news : List PortView) (how : Result (Unit {0}) Failed)
            → Ends never [] (writes std_out (bad_value_line (name_of (slice_get its.nodes bad.node)) bad.line) ∷ []) [] mids news how → how ≡ Ok tt
            → EndsAnswer m.call (m.limit + 64) m.later after m.commands places (hands_with now news) (Ok (EndsWith BadValue))
        bad_answer its its_is news how ended equal = record {
          bindings = blocked.bindings;
          stands = written m.call (m.limit + 64) (left_bad m.call bad.node bad.line) after m.commands places (hands_with now mids) blocked.bindings blocked.stands act news
              (left_closed m.call BadValue) (λ offers rest. refl)
              (subst (λ r. Ends never [] act [] mids news r) equal (told_as its its_is news how ended)) (λ session rest. refl);
        }

        pub bad_failed : (its : Core) → its ≡ core_of after → (news : List PortView) (how : Result (Unit {0}) Failed)
            → Ends never [] (writes std_out (bad_value_line (name_of (slice_get its.nodes bad.node)) bad.line) ∷ []) [] mids news how
            → (failed : Failed) → how ≡ Err failed → EndsCall m.call (hands_with now news) Fault
        bad_failed its its_is news how ended failed equal =
            unwritten m.call (m.limit + 64) (left_bad m.call bad.node bad.line) after m.commands places (hands_with now mids) blocked.bindings blocked.stands act news
            (left_closed m.call BadValue) (λ offers rest. refl) (subst (λ r. Ends never [] act [] mids news r) equal (told_as its its_is news how ended))

-- an exchange

module _ (m : Moment) (number : ℕ) (after : Engine) (moved : Places) (new : Hands) (result : Result Bool Failed)
    (ends : EndsExchange m.call m.limit number m.later after m.commands moved new result) where
  pub exchange_answer : result ≡ Ok true → EndsAnswer m.call (m.limit + 64) m.later after m.commands moved new (Ok Continues)
  exchange_answer is =
      let goes = subst (EndsExchange m.call m.limit number m.later after m.commands moved new) is ends in
      record {
        bindings = goes.bindings;
        stands = roomier m.call m.limit (m.limit + 64) (left_later m.later) after m.commands moved new goes.bindings (omega arith) goes.stands;
      }

  pub exchange_failed : (failed : Failed) → result ≡ Err failed → EndsCall m.call new Fault
  exchange_failed failed is = subst (EndsExchange m.call m.limit number m.later after m.commands moved new) is ends

  pub refused : result ≡ Ok false → GoesOn m.call m.limit (left_refusal number m.later) after m.commands moved new
  refused is = subst (EndsExchange m.call m.limit number m.later after m.commands moved new) is ends

  pub refused_answer : BeginsAsItIs m.later → m.limit + 64 ≤ 2000000000 → result ≡ Ok false → (news : List PortView) (how : Result (Unit {0}) Failed)
      → Ends never [] (writes std_out (no_exchange_line number) ∷ []) [] new.ports news how
      → EndsAnswer m.call (m.limit + 64) m.later after m.commands moved (hands_with new news) (turn_of how)
  refused_answer begins most is news how told_so =
      let goes = refused is in
      let moment : Moment = record m { bindings = goes.bindings } in
      told_answer moment (left_refusal number m.later) after moved new (record { begins = begins; most = most; stands = goes.stands })
      (writes std_out (no_exchange_line number) ∷ []) (λ offers rest. refl) news how told_so
