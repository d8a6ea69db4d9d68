-- Where a session stands before its first line.
use Rattle.std.proofs.Common.{◌≡◌, ℕ, ◌<◌, map, Bool, false, ◌||◌, List, [], ◌∷◌, ◌++◌, length, refl, ap, sym, ◌∙◌, subst, arith, Some, Result, Ok, Err}
use Rattle.std.specs.Prelude.{slice_get}
use Rattle.std.proofs.lemmas.Bool.{true≢false}
use Rattle.std.proofs.lemmas.List.FromFn.{length-map-range_with_len}
use Rattle.hume_model.specs.declared.core_tree.NodeC.TheVariants.{From}
use Rattle.hume_model.specs.declared.core_tree.StreamC.{StreamC}
use Rattle.hume_model.specs.declared.core_tree.Core.{Core}
use Rattle.hume_net.specs.declared.state.State.{State}
use Rattle.hume_net.specs.Lockstep.{lockstep}
use Rattle.hume_net.specs.Nodes.{IsInput, IsInputStream}
use Rattle.hume_net.specs.Parts.{IsStateOf}
use Rattle.hume_net.specs.Start.{start, no_values}
use Rattle.hume_net.proofs.StatePlaces.{lockstep_places}
use Rattle.hume_ports.specs.declared.port.Failed.{Failed}
use Rattle.hume_ports.specs.Port.{PortView}
use Rattle.hume_ports.specs.Ports.{names, place_of}
use Rattle.hume_ports.specs.Delivery.{Pairs, bytes_for}
use Rattle.hume_streams.specs.Lines.{lines_of}
use Rattle.hume_streams.specs.Queues.{QueueView}
use Rattle.port_acts.specs.Acts.{Act, write_each, writes}
use Rattle.port_acts.specs.Early.{read_each}
use Rattle.port_acts.specs.Ends.{Ends, Made, never}
use Rattle.phase_workers.specs.Engines.{EngineView as Engine}
use Rattle.phase_workers.specs.Engines.{core_of, queue_at, IsRight}
use Rattle.phase_workers.specs.RightQueues.{IsRightBehind}
use Rattle.phase_workers.specs.StreamTypes.{type_at}
use Rattle.run_rounds.specs.declared.rounds.TheConstants.{SPAN}
use Rattle.run_rounds.specs.Opened.{IsFresh}
use Rattle.hume_calls.specs.Owed.{table_writes}
use Rattle.hume_calls.specs.Reading.{source_reads}
use Rattle.hume_console.specs.declared.places.Places.{Places}
use Rattle.hume_console.specs.declared.session.Session.{Session as Served}
use Rattle.hume_console.specs.Words.{std_in}
use Rattle.hume_console.specs.Courses.{first_do, EndsCourse}
use Rattle.hume_console.specs.Hands.{Hands}
use Rattle.hume_console.specs.Headline.{session_few}
use Rattle.hume_console.specs.Serving.{served}
use Rattle.hume_console.specs.Session.{Session, Offer, first_session, names_of, text_of}
use Rattle.hume_console.specs.inner.Answering.{StandsAt, left_lines}
use Rattle.hume_console.specs.inner.CommandBuffers.{unread_in}
use Rattle.hume_console.specs.inner.Opening.{first_bindings, left_table, IsOpen}
use Rattle.hume_console.specs.inner.Begun.{EndsTable, HasBegun}
use Rattle.hume_console.specs.declared.opening.Opened.{Opened}
use Rattle.hume_console.specs.declared.command_lines.CommandLines.{CommandLines}
use Rattle.run_rounds.specs.Streams.{std_out}
use Rattle.trace_print.specs.InTurn.{EndsLines, lines_to}
use Rattle.trace_print.specs.table.Table.{space_table}
use Rattle.hume_calls.proofs.FitPorts.{found_place}
use Rattle.std.proofs.lemmas.List.{length-map}
use Rattle.hume_console.specs.inner.Placed.{ArePlaced}
use Rattle.hume_console.specs.inner.Standing.{AreRead, Bindings, Call, IsServing, Stands, session_of}
use Rattle.hume_console.proofs.CourseSteps.{bound_first, made_first}
use Rattle.hume_console.proofs.PortsLeft.{differ_eq}
use Rattle.hume_console.proofs.SessionLines.{served_bound}
use Rattle.hume_console.proofs.Standings.{hands_with, own_placed, unwritten, written}

lockstep_none : (core : Core) (state : State) (k : ℕ) → k ≡ 0 → lockstep core state k ≡ state
unfolding lockstep
lockstep_none core state k none = ap (lockstep core state) none

start_parts : (core : Core) → IsStateOf core (start core (no_values core))
start_parts core =
    let places = lockstep_places core (no_values core) (length-map-range_with_len (λ n. []) 0 _) 0 in
    subst (IsStateOf core) (lockstep_none core (start core (no_values core)) 0 refl) places.places

module _ (call : Call) (engine : Engine) (places : Places) (now : Hands) (taken : Pairs) (serving : IsServing call) (fresh : IsFresh call.core SPAN engine)
    (made : Made (read_each (source_reads call.source)) taken call.first.ports now.ports) (stay : now.gone ≡ call.first.gone)
    (placed : (offers : List Offer) → names_of offers ≡ names now.ports
    → ArePlaced call.core call.source (session_of engine (first_bindings call taken) offers) (names now.ports) places)
    (free : (n : ℕ) (stream : StreamC) → slice_get call.core.nodes n ≡ Some (From stream) → (first_bindings call taken).port n ≡ call.source → ⊥) where
  abbrev b : Bindings
  b = first_bindings call taken

  -- nothing was read but the source
  no_others : (name : List ℕ) → (name ≡ call.source → ⊥) → bytes_for name taken ≡ []
  no_others name differ = made.only_wanted name (ap (λ r. r || false) (differ_eq name call.source differ))

  no_commands : bytes_for std_in taken ≡ []
  no_commands = no_others std_in (λ same. serving.apart (sym same))

  is_input : (n : ℕ) (stream : StreamC) → slice_get call.core.nodes n ≡ Some (From stream) → IsInputStream call.core n
  is_input n stream there = subst IsInput (sym there) tt

  going : (n : ℕ) (stream : StreamC) → slice_get call.core.nodes n ≡ Some (From stream) → (queue_at engine n).ended ≡ false
  going n stream there = ap (λ (queue : QueueView). queue.ended) (fresh.begun n (is_input n stream there))

  right : (n : ℕ) (stream : StreamC) → slice_get call.core.nodes n ≡ Some (From stream) → IsRight engine n (bytes_for (b.port n) taken) []
  right n stream there =
      let own : IsRightBehind call.core.types (type_at call.core n) (queue_at engine n) [] [] =
      record { right = λ rest end. fresh.right n (is_input n stream there) rest } in
      subst (λ (bytes : List ℕ). IsRight engine n bytes []) (sym (no_others (b.port n) (free n stream there)))
      (subst (λ (c : Core). IsRightBehind c.types (type_at c n) (queue_at engine n) [] []) (sym fresh.is_core) own)

  are_read : AreRead call.core call.source engine false now.ports b
  are_read = record {
    same_names = made.progress.same_names;
    drawn = made.progress.drawn;
    right = right;
    count = λ n. refl;
    told = λ n stream there ended. absurd (true≢false (sym ended ∙ going n stream there));
    commands_told = λ over. absurd (true≢false (sym over));
    others = λ name source commands streams. no_others name source;
  }

  session_is : (offers : List Offer) → session_of engine b offers ≡ first_session call.core offers
  session_is offers = ap (λ (net : State). record (first_session call.core offers) { net = net }) fresh.state

  -- the table is left to write
  pub begins : Stands call 64 (left_table call) engine (record { bytes = []; ended = false }) places now b
  begins = record {
    serving = serving;
    rests = record {
      is_core = fresh.is_core;
      is_span = fresh.is_span;
      parts = subst (IsStateOf call.core) (sym fresh.state) (start_parts call.core);
      cleared = ap (λ (state : State). state.taken) fresh.state;
      heap = λ n. (fresh.peaks n).0;
      stack = λ n. (fresh.peaks n).1;
    };
    read = are_read;
    are = no_commands;
    placed = placed;
    few = λ n. omega arith;
    bounds = λ session rest. bound_first (write_each (table_writes call.core)) (left_lines call 1 [] session rest)
        ∙ served_bound call.core call.supplies call.source session 1 (lines_of rest);
    goes_on = λ offers rest may new ending ends. record {
      offers = offers;
      told = may.told;
      ends =
          let text : rest ≡ text_of std_in offers = sym (may.commands ∙ ap (λ (bs : List ℕ). bs ++ rest) no_commands) in
          made_first (session_few call.source call.text) [] taken (read_each (source_reads call.source)) call.first now (record { made = made; stay = stay })
          (first_do (write_each (table_writes call.core)) (served call.core call.supplies call.source (first_session call.core offers) 1 (lines_of (text_of std_in offers))))
          new ending
          (subst (λ (bs : List ℕ). EndsCourse (session_few call.source call.text) taken (first_do (write_each (table_writes call.core))
          (served call.core call.supplies call.source (first_session call.core offers) 1 (lines_of bs))) now new ending) text
          (subst (λ (session : Session). EndsCourse (session_few call.source call.text) taken (first_do (write_each (table_writes call.core))
          (served call.core call.supplies call.source session 1 (lines_of rest))) now new ending) (session_is offers) ends));
    };
  }

  module _ (news : List PortView) where
    -- all lines are left, once the table is written
    pub begins_lines : (session : Served) → session.engine ≡ engine → session.places ≡ places → unread_in session.lines ≡ [] → session.lines.ended ≡ false
        → Made (write_each (table_writes call.core)) [] now.ports news → StandsAt call 1 session (hands_with now news)
    begins_lines session same_engine same_places unread going wrote = record {
      bytes = [];
      bindings = b;
      stands =
          let it : Stands call 64 (left_lines call 1 []) engine (record { bytes = []; ended = false }) places (hands_with now news) b =
          written call 64 (left_table call) engine (record { bytes = []; ended = false }) places now b begins (write_each (table_writes call.core)) news (left_lines call 1 [])
          (λ offers rest. refl) wrote (λ other rest. served_bound call.core call.supplies call.source other 1 (lines_of rest)) in
          subst (λ (e : Engine). Stands call 64 (left_lines call 1 (unread_in session.lines)) e (record { bytes = []; ended = session.lines.ended }) session.places
          (hands_with now news) b) (sym same_engine)
          (subst (λ (p : Places). Stands call 64 (left_lines call 1 (unread_in session.lines)) engine (record { bytes = []; ended = session.lines.ended }) p
          (hands_with now news) b) (sym same_places)
          (subst (λ (bs : List ℕ). Stands call 64 (left_lines call 1 bs) engine (record { bytes = []; ended = session.lines.ended }) places (hands_with now news) b) (sym unread)
          (subst (λ (over : Bool). Stands call 64 (left_lines call 1 []) engine (record { bytes = []; ended = over }) places (hands_with now news) b) (sym going) it)));
      taken = record {
        gone = [];
        count = refl;
        split = λ rest over. ap (λ (bs : List ℕ). lines_of (bs ++ rest)) (sym unread);
      };
    }

-- the table is told

lines_written : (lines : List (List ℕ)) → lines_to std_out lines ≡ write_each (map (λ line. (std_out, line)) lines)
lines_written [] = refl
lines_written (line ∷ lines) = ap (λ (rest : List Act). writes std_out line ∷ rest) (lines_written lines)

out_first : (call : Call) (engine : Engine) (places : Places) (now : Hands) (b : Bindings) → Stands call 64 (left_table call) engine (record { bytes = []; ended = false }) places now b
    → place_of std_out (names now.ports) ≡ Some places.std_out
out_first call engine places now b stands = (own_placed call 64 (left_table call) engine (record { bytes = []; ended = false }) places now b stands).at_std_out

module _ (call : Call) (old : Opened) (now : Hands) (begun : HasBegun call old.session.places now) (opens : IsOpen call.core old.costs old.session.places old) where
  placed_so : (offers : List Offer) → names_of offers ≡ names now.ports
      → ArePlaced call.core call.source (session_of old.session.engine (first_bindings call begun.taken) offers) (names now.ports) old.session.places
  placed_so offers named =
      subst (λ (session : Session). ArePlaced call.core call.source session (names now.ports) old.session.places)
      (sym (ap (λ (net : State). record (first_session call.core offers) { net = net }) opens.fresh.state)) (begun.placed offers named)

  pub table_told : (session : Served) → session.engine ≡ old.session.engine → session.places ≡ old.session.places → session.lines ≡ old.session.lines
      → (news : List PortView) (result : Result (Unit {0}) Failed) → Ends never [] (write_each (table_writes call.core)) [] now.ports news result
      → EndsTable call session (hands_with now news) result
  table_told session engine places lines news (Ok done) made =
      begins_lines call old.session.engine old.session.places now begun.taken begun.serving opens.fresh begun.made begun.stay placed_so begun.free news session engine places
      (ap unread_in lines ∙ opens.unread) (ap (λ (commands : CommandLines). commands.ended) lines ∙ opens.going) made
  table_told session engine places lines news (Err failed) fails =
      unwritten call 64 (left_table call) old.session.engine (record { bytes = []; ended = false }) old.session.places now (first_bindings call begun.taken)
      (begins call old.session.engine old.session.places now begun.taken begun.serving opens.fresh begun.made begun.stay placed_so begun.free)
      (write_each (table_writes call.core)) news (left_lines call 1 []) (λ offers rest. refl) fails

  pub table_out : place_of std_out (names now.ports) ≡ Some old.session.places.std_out
  table_out = out_first call old.session.engine old.session.places now (first_bindings call begun.taken)
      (begins call old.session.engine old.session.places now begun.taken begun.serving opens.fresh begun.made begun.stay placed_so begun.free)

  pub table_core : (core : Core) → core ≡ core_of old.session.engine → core ≡ call.core
  table_core core is = is ∙ opens.fresh.is_core

  pub table_ends : (core : Core) → core ≡ core_of old.session.engine → (session : Served) → session.engine ≡ old.session.engine → session.places ≡ old.session.places
      → session.lines ≡ old.session.lines → (news : List PortView) (result : Result (Unit {0}) Failed)
      → EndsLines old.session.places.std_out (space_table core) now.ports news result → EndsTable call session (hands_with now news) result
  table_ends core is session engine places lines news result ends =
      table_told session engine places lines news result
      (subst (λ (c : Core). Ends never [] (write_each (table_writes c)) [] now.ports news result) (table_core core is)
      (subst (λ (acts : List Act). Ends never [] acts [] now.ports news result) (lines_written (space_table core)) (ends std_out table_out)))

-- `std_out` is one of the ports
pub table_within : {X : Type 0} (view : X → PortView) (ports : List X) (at : ℕ) → place_of std_out (names (map view ports)) ≡ Some at → at < length ports
table_within view ports at is = subst (λ count. at < count) (length-map (map view ports) (λ (port : PortView). port.name) ∙ length-map ports view)
    (found_place std_out (names (map view ports)) at is).place.within
