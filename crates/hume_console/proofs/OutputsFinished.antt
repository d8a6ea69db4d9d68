-- A session finishes `std_out` and each port that an output stream has or had, last of all that it does to it.
use Rattle.std.proofs.Common.{◌≡◌, ◌⊎◌, ℕ, zero, suc, ◌+◌, cond, Bool, true, false, not, ◌||◌, ◌&&◌, List, [], ◌∷◌, ◌++◌, length, Option, None, Some, refl, ap, sym, ◌∙◌, subst, arith, inl, inr}
use Rattle.std.specs.Prelude.{slice_get, if◌then◌else◌, ◌==◌}
use Rattle.std.specs.List.{flat_map, list_any, range_with_len, remove}
use Rattle.std.specs.Option.{is_none, option_map, unwrap_or}
use Rattle.std.specs.Str.{bytes_eq}
use Rattle.std.proofs.lemmas.Bool.{cases_Bool, eq-eqb, ne_eqb, or_parts, true≢false}
use Rattle.std.proofs.lemmas.List.Folds.{list_any-append}
use Rattle.std.proofs.lemmas.Option.{slice_get_within}
use Rattle.hume_base.specs.declared.types.Value.{Value}
use Rattle.hume_model.specs.declared.core_tree.NodeC.{NodeC}
use Rattle.hume_model.specs.declared.core_tree.NodeC.TheVariants.{Rules, From, To}
use Rattle.hume_model.specs.declared.core_tree.StreamC.{StreamC}
use Rattle.hume_model.specs.declared.core_tree.Core.{Core}
use Rattle.hume_net.specs.Sides.{on_wire, part_of}
use Rattle.hume_ports.specs.Ports.{is_among, other_names, place_of}
use Rattle.hume_ports.proofs.Names.{bytes_eq-self, is_among-other_names, place-suc, place-zero, same_name}
use Rattle.hume_streams.specs.Lines.{lines_of}
use Rattle.port_acts.specs.Acts.{Act, wants, finishes, finish_each, is_finished, is_out_after, write_each}
use Rattle.port_acts.proofs.ActLists.{is_out_after-append}
use Rattle.port_acts.proofs.Each.{each_is_finished}
use Rattle.trace_print.specs.InTurn.{lines_to}
use Rattle.trace_print.specs.TraceLines.{peak_lines, wire_lines}
use Rattle.trace_print.specs.table.Table.{space_table}
use Rattle.run_rounds.specs.Streams.{std_out, stream_of, streams}
use Rattle.run_rounds.specs.Writes.{bad_value_line, name_of}
use Rattle.hume_calls.specs.Streams.{unfit_line}
use Rattle.hume_console.specs.declared.ending.Ending.{Ending}
use Rattle.hume_console.specs.declared.ending.Ending.TheVariants.{BadValue, Done}
use Rattle.hume_console.specs.Commands.{Command, Step, Wires, Peaks, Exchange, End, command_of, is_bad_line, no_command_line, no_exchange_line}
use Rattle.hume_console.specs.Courses.{Bound, Course, ends, leaves, first_do}
use Rattle.hume_console.specs.EachPort.{finish_at, finishes_last, is_place}
use Rattle.hume_console.specs.Hands.{place_without}
use Rattle.hume_console.specs.Headline.{session_course}
use Rattle.hume_console.specs.Outputs.{HasOutput, IsLastOutput}
use Rattle.hume_console.specs.Serving.{answered, closed, exchange_acts, exchange_course, output_port, output_ports, served, step_course, step_lines, step_wants, tells}
use Rattle.hume_console.specs.Session.{Offer, Session, Supplies, after_steps, blocked_by, declared_port, exchanged, first_session, is_bound, is_taken, may_exchange, names_of, place_at, port_of_node, stepped, stream_named, supply_of, text_of}
use Rattle.hume_console.specs.Words.{std_in}
use Rattle.hume_console.proofs.Exchanged.{IsFree, is_free, names_left}
use Rattle.hume_console.proofs.Exchanges.{HasStream, stream_there}
use Rattle.hume_console.proofs.FitStreams.{fit_apart, fit_there}
use Rattle.hume_console.proofs.Leaving.{place_removed}
use Rattle.hume_console.proofs.Placing.{one_passes, same_place}
use Rattle.hume_console.proofs.ReadOn.{same_or_other}

-- names

not_true : (b : Bool) → not b ≡ true → b ≡ false
not_true true e = cc
not_true false e = refl

some_of : (o : Option ℕ) → is_none o ≡ false → (p : ℕ) × (o ≡ Some p)
some_of None e = cc
some_of (Some p) e = (p, refl)

-- names of one place are one
one_name : (a b : List ℕ) (names : List (List ℕ)) (p : ℕ) → place_of a names ≡ Some p → place_of b names ≡ Some p → a ≡ b
one_name a b names p e f = same_name a b (sym (same_place a b names p p e f) ∙ eq-eqb p p refl)

any_flat : (test : List ℕ → Bool) (f : ℕ → List (List ℕ)) (ns : List ℕ) → list_any test (flat_map f ns) ≡ list_any (λ n. list_any test (f n)) ns
any_flat test f [] = refl
any_flat test f (n ∷ ns) = list_any-append test (f n) (flat_map f ns) ∙ ap (λ b. list_any test (f n) || b) (any_flat test f ns)

or_left : (a b : Bool) → a ≡ true → (a || b) ≡ true
or_left true b e = refl
or_left false b e = cc

or_right : (a b : Bool) → b ≡ true → (a || b) ≡ true
or_right true b e = refl
or_right false b e = e

-- a finish at the end is the last of all, whatever came before
finish_last : (names : List (List ℕ)) (name : List ℕ) (before : Bool) → is_among name names ≡ true → is_out_after name before (finish_each names) ≡ true
finish_last names name false among = each_is_finished [] names name among
finish_last names name true among =
    let out : is_out_after name (if bytes_eq name name then true else false) (finish_each names) ≡ true = each_is_finished (finishes name ∷ []) names name among in
    subst (λ b. is_out_after name (if b then true else false) (finish_each names) ≡ true) (bytes_eq-self name) out

module _ (core : Core) where
  -- `std_out` is there, and each stream has a port of its own that is there
  record AreOwn (session : Session) : Type 0 where
    pub out : (p : ℕ) × (place_of std_out (names_of session.ports) ≡ Some p)
    pub there : (n : ℕ) (node : NodeC) (stream : StreamC) → slice_get core.nodes n ≡ Some node → stream_of node ≡ Some stream
        → (p : ℕ) × (place_of (session.port n) (names_of session.ports) ≡ Some p)
    pub apart : (n m : ℕ) (node other : NodeC) (one two : StreamC) → slice_get core.nodes n ≡ Some node → slice_get core.nodes m ≡ Some other
        → stream_of node ≡ Some one → stream_of other ≡ Some two → session.port n ≡ session.port m → n ≡ m

  abbrev IsOutput : Bound → List ℕ → Type 0
  IsOutput bound name = (name ≡ std_out) ⊎ HasOutput core bound name

  -- each output is finished at the end, and the one that leaves before it leaves
  abbrev Finishes : List (List ℕ) → Course → Type 0
  Finishes names (ends bound acts answer) = (name : List ℕ) → IsOutput bound name → (before : Bool) → is_out_after name before acts ≡ true
  Finishes names (leaves bound acts leaving later) =
      ((name : List ℕ) → HasOutput core bound name → place_of name names ≡ Some leaving → (before : Bool) → is_out_after name before acts ≡ true)
      × Finishes (remove names leaving) later

  first_finishes : (acts : List Act) (names : List (List ℕ)) (course : Course) → Finishes names course → Finishes names (first_do acts course)
  first_finishes acts names (ends bound others answer) f =
      λ name is before. is_out_after-append name before acts others ∙ f name is (is_out_after name before acts)
  first_finishes acts names (leaves bound others leaving later) f =
      (λ name is place before. is_out_after-append name before acts others ∙ f.0 name is place (is_out_after name before acts), f.1)

  -- the end

  output_among : (session : Session) (name : List ℕ) → HasOutput core session.port name → is_among name (output_ports core session) ≡ true
  output_among session name is =
      let own : list_any (bytes_eq name) (output_port session is.node (slice_get core.nodes is.node)) ≡ true =
      ap (λ (o : Option NodeC). list_any (bytes_eq name) (output_port session is.node o)) is.is
      ∙ or_left (bytes_eq name (session.port is.node)) false (ap (bytes_eq name) is.port ∙ bytes_eq-self name) in
      any_flat (bytes_eq name) (λ n. output_port session n (slice_get core.nodes n)) (range_with_len 0 (length core.nodes))
      ∙ one_passes (λ n. list_any (bytes_eq name) (output_port session n (slice_get core.nodes n))) (length core.nodes) is.node
      (slice_get_within core.nodes is.node (To is.stream) is.is) own

  among_closed : (session : Session) (name : List ℕ) → IsOutput session.port name
      → is_among name (other_names std_out (output_ports core session) ++ std_out ∷ []) ≡ true
  among_closed session name (inl same) =
      list_any-append (bytes_eq name) (other_names std_out (output_ports core session)) (std_out ∷ [])
      ∙ or_right (is_among name (other_names std_out (output_ports core session))) (bytes_eq name std_out || false)
      (or_left (bytes_eq name std_out) false (ap (bytes_eq name) (sym same) ∙ bytes_eq-self name))
  among_closed session name (inr is) = by (cases_Bool (bytes_eq name std_out))
    where
      by : (bytes_eq name std_out ≡ true) ⊎ (bytes_eq name std_out ≡ false)
          → is_among name (other_names std_out (output_ports core session) ++ std_out ∷ []) ≡ true
      by (inl out) =
          list_any-append (bytes_eq name) (other_names std_out (output_ports core session)) (std_out ∷ [])
          ∙ or_right (is_among name (other_names std_out (output_ports core session))) (bytes_eq name std_out || false) (or_left (bytes_eq name std_out) false out)
      by (inr other) =
          list_any-append (bytes_eq name) (other_names std_out (output_ports core session)) (std_out ∷ [])
          ∙ or_left (is_among name (other_names std_out (output_ports core session))) (bytes_eq name std_out || false)
          (is_among-other_names name std_out (output_ports core session)
          ∙ ap (λ b. cond b false (is_among name (output_ports core session))) other ∙ output_among session name is)

  closed_finishes : (session : Session) (answer : Ending) (names : List (List ℕ)) → Finishes names (closed core session answer)
  closed_finishes session answer names =
      λ name is before. finish_last (other_names std_out (output_ports core session) ++ std_out ∷ []) name before (among_closed session name is)

  told_finishes : (session : Session) (line : List ℕ) (names : List (List ℕ)) (course : Course) → Finishes names course → Finishes names (first_do (tells line) course)
  told_finishes session line names course f = first_finishes (tells line) names course f

  -- an exchange

  module _ (source : List ℕ) (session : Session) (own : AreOwn session) (n : ℕ) (has : HasStream core n) (port : List ℕ)
      (may : may_exchange core source session n port ≡ true) where
    free : IsFree core source session n port
    free = is_free core source session n port may

    abbrev names : List (List ℕ)
    names = names_of session.ports

    old_place : (p : ℕ) × (place_of (session.port n) names ≡ Some p)
    old_place = own.there n has.item has.stream has.there has.is

    at_place : place_at session n ≡ old_place.0
    at_place = ap (λ o. unwrap_or o 0) old_place.1

    -- an output that leaves is finished
    leaving_finished : (name : List ℕ) → HasOutput core session.port name → place_of name names ≡ Some (place_at session n) → (before : Bool)
        → is_out_after name before (exchange_acts session n (slice_get core.nodes n)) ≡ true
    leaving_finished name is place before =
        let same : name ≡ session.port n = one_name name (session.port n) names old_place.0 (place ∙ ap (λ p. Some p) at_place) old_place.1 in
        let node : is.node ≡ n = own.apart is.node n (To is.stream) has.item is.stream has.stream is.is has.there refl has.is (is.port ∙ same) in
        let there : slice_get core.nodes n ≡ Some (To is.stream) = ap (slice_get core.nodes) (sym node) ∙ is.is in
        ap (λ (o : Option NodeC). is_out_after name before (exchange_acts session n o)) there
        ∙ ap (λ b. if b then true else before) (ap (bytes_eq name) (sym same) ∙ bytes_eq-self name)

    -- another port is there still
    still_there : (name : List ℕ) (q : ℕ) → place_of name names ≡ Some q → (name ≡ session.port n → ⊥)
        → (p : ℕ) × (place_of name (names_of (exchanged session n port).ports) ≡ Some p)
    still_there name q e differ =
        let differs : q ≡ place_at session n → ⊥ = λ same. differ (one_name name (session.port n) names old_place.0
        (e ∙ ap (λ p. Some p) (same ∙ at_place)) old_place.1) in
        (place_without (place_at session n) q, ap (place_of name) (names_left session.ports (place_at session n)) ∙ place_removed name names (place_at session n) q e differs)

    new_place : (p : ℕ) × (place_of port names ≡ Some p)
    new_place =
        let both = or_parts (bytes_eq (session.port n) std_out) (is_bound core source session port) (not_true _ may) in
        some_of (place_of port names) (or_parts (is_none (place_of port names)) (is_taken core source session port) both.1).0

    abbrev now : ℕ → List ℕ
    now m = if m == n then port else session.port m

    here_now : (m : ℕ) → m ≡ n → now m ≡ port
    here_now m same = ap (λ b. if b then port else session.port m) (eq-eqb m n same)

    else_now : (m : ℕ) → (m ≡ n → ⊥) → now m ≡ session.port m
    else_now m differ = ap (λ b. if b then port else session.port m) (ne_eqb m n differ)

    there_now : (m : ℕ) (node : NodeC) (stream : StreamC) → slice_get core.nodes m ≡ Some node → stream_of node ≡ Some stream → (m ≡ n) ⊎ (m ≡ n → ⊥)
        → (p : ℕ) × (place_of (now m) (names_of (exchanged session n port).ports) ≡ Some p)
    there_now m node stream at is (inl same) =
        let still = still_there port new_place.0 new_place.1 (λ equal. free.no_stream n has.item has.stream has.there has.is (sym equal)) in
        (still.0, ap (λ name. place_of name (names_of (exchanged session n port).ports)) (here_now m same) ∙ still.1)
    there_now m node stream at is (inr differ) =
        let place = own.there m node stream at is in
        let still = still_there (session.port m) place.0 place.1 (λ equal. differ (own.apart m n node has.item stream has.stream at has.there is has.is equal)) in
        (still.0, ap (λ name. place_of name (names_of (exchanged session n port).ports)) (else_now m differ) ∙ still.1)

    apart_now : (m k : ℕ) (node other : NodeC) (one two : StreamC) → slice_get core.nodes m ≡ Some node → slice_get core.nodes k ≡ Some other
        → stream_of node ≡ Some one → stream_of other ≡ Some two → (m ≡ n) ⊎ (m ≡ n → ⊥) → (k ≡ n) ⊎ (k ≡ n → ⊥) → now m ≡ now k → m ≡ k
    apart_now m k node other one two at over is are (inl same) (inl also) e = same ∙ sym also
    apart_now m k node other one two at over is are (inl same) (inr differ) e =
        absurd (free.no_stream k other two over are (sym (else_now k differ) ∙ sym e ∙ here_now m same))
    apart_now m k node other one two at over is are (inr differ) (inl also) e =
        absurd (free.no_stream m node one at is (sym (else_now m differ) ∙ e ∙ here_now k also))
    apart_now m k node other one two at over is are (inr differ) (inr apart) e =
        own.apart m k node other one two at over is are (sym (else_now m differ) ∙ e ∙ else_now k apart)

    own_now : AreOwn (exchanged session n port)
    own_now = record {
      out = still_there std_out own.out.0 own.out.1 (λ equal. free.no_std_out (sym equal));
      there = λ m node stream at is. there_now m node stream at is (same_or_other m n);
      apart = λ m k node other one two at over is are. apart_now m k node other one two at over is are (same_or_other m n) (same_or_other k n);
    }

  -- what comes later finishes its outputs
  abbrev LaterFinishes : (Session → Course) → Type 0
  LaterFinishes later = (next : Session) → AreOwn next → Finishes (names_of next.ports) (later next)

  module _ (supplies : Supplies) (source : List ℕ) where
    step_finishes : (session : Session) (steps : ℕ) (o : Option ℕ) (later : Session → Course) → LaterFinishes later → AreOwn session
        → Finishes (names_of session.ports) (step_course core supplies session steps o later)
    step_finishes session steps None later f own =
        first_finishes (step_wants core session steps (length core.nodes)
        ++ write_each (step_lines core session (λ n. (part_of (after_steps core supplies session steps) n).taken))) (names_of session.ports)
        (later (stepped core supplies session steps))
        (f (stepped core supplies session steps) (record { out = own.out; there = own.there; apart = own.apart }))
    step_finishes session steps (Some n) later f own =
        first_finishes (step_wants core session steps (n + 1)
        ++ tells (bad_value_line (name_of (slice_get core.nodes n)) (unwrap_or (supply_of supplies session n).bad 0))) (names_of session.ports)
        (closed core session BadValue) (closed_finishes session BadValue (names_of session.ports))

    exchange_finishes : (session : Session) (number : ℕ) (named : Option ℕ) (port : List ℕ) (later : Session → Course) → LaterFinishes later → AreOwn session
        → ((n : ℕ) → named ≡ Some n → HasStream core n) → Finishes (names_of session.ports) (exchange_course core source session number named port later)
    exchange_finishes session number None port later f own has =
        told_finishes session (no_exchange_line number) (names_of session.ports) (later session) (f session own)
    exchange_finishes session number (Some n) port later f own has = by (may_exchange core source session n port) refl
      where
        by : (may : Bool) → may_exchange core source session n port ≡ may → Finishes (names_of session.ports) (if may
            then leaves session.port (exchange_acts session n (slice_get core.nodes n)) (place_at session n) (later (exchanged session n port))
            else first_do (tells (no_exchange_line number)) (later session))
        by false is = told_finishes session (no_exchange_line number) (names_of session.ports) (later session) (f session own)
        by true is = (
          leaving_finished source session own n (has n refl) port is,
          subst (λ ns. Finishes ns (later (exchanged session n port))) (names_left session.ports (place_at session n))
              (f (exchanged session n port) (own_now source session own n (has n refl) port is)),
        )

    line_finishes : (session : Session) (number : ℕ) (asked : Option Command) (later : Session → Course) → LaterFinishes later → AreOwn session
        → Finishes (names_of session.ports) (answered core supplies source session number asked later)
    line_finishes session number None later f own = told_finishes session (no_command_line number) (names_of session.ports) (later session) (f session own)
    line_finishes session number (Some (Step steps)) later f own = step_finishes session steps (blocked_by core supplies session steps) later f own
    line_finishes session number (Some Wires) later f own =
        first_finishes (lines_to std_out (wire_lines core (on_wire session.net))) (names_of session.ports) (later session) (f session own)
    line_finishes session number (Some Peaks) later f own =
        first_finishes (lines_to std_out (peak_lines core session.peaks)) (names_of session.ports) (later session) (f session own)
    line_finishes session number (Some (Exchange stream port)) later f own =
        exchange_finishes session number (stream_named core stream) port later f own (λ n is. stream_there core stream n is)
    line_finishes session number (Some End) later f own = closed_finishes session Done (names_of session.ports)

    good_or_bad : (session : Session) (number : ℕ) (line : List ℕ) (later : Session → Course) → LaterFinishes later → AreOwn session → (bad : Bool)
        → Finishes (names_of session.ports) (if bad then first_do (tells (bad_value_line std_in number)) (closed core session BadValue)
        else answered core supplies source session number (command_of line) later)
    good_or_bad session number line later f own true =
        told_finishes session (bad_value_line std_in number) (names_of session.ports) (closed core session BadValue) (closed_finishes session BadValue (names_of session.ports))
    good_or_bad session number line later f own false = line_finishes session number (command_of line) later f own

    -- what is answered to a line, and what comes later
    abbrev behind_line : Session → ℕ → List ℕ → (Session → Course) → Course
    behind_line session number line later = if is_bad_line number line then first_do (tells (bad_value_line std_in number)) (closed core session BadValue)
        else answered core supplies source session number (command_of line) later

    lines_finish : (lines : List (List ℕ)) (session : Session) (number : ℕ) → AreOwn session
        → Finishes (names_of session.ports) (served core supplies source session number lines)
    unfolding served
    lines_finish [] session number own =
        first_finishes (wants std_in number ∷ []) (names_of session.ports) (closed core session Done) (closed_finishes session Done (names_of session.ports))
    lines_finish (line ∷ lines) session number own =
        first_finishes (wants std_in number ∷ []) (names_of session.ports)
        (behind_line session number line (λ next. served core supplies source next (number + 1) lines))
        (good_or_bad session number line (λ next. served core supplies source next (number + 1) lines) (λ next its. lines_finish lines next (number + 1) its) own
        (is_bad_line number line))

  -- the port at a place is finished if it was an output's last of all

  by_first : (names : List (List ℕ)) (name : List ℕ) (at : ℕ) (acts : List Act) → place_of name names ≡ Some at → is_finished name acts ≡ true
      → finish_at at names acts ≡ true
  by_first names name at acts place finished =
      ap (λ o. unwrap_or (option_map (λ n. is_place at (place_of n names) && is_finished n acts) o) false) (named_there name names at place)
      ∙ ap (λ o. is_place at o && is_finished name acts) place ∙ ap (λ b. b && is_finished name acts) (eq-eqb at at refl) ∙ finished
    where
      named_there : (one : List ℕ) (all : List (List ℕ)) (k : ℕ) → place_of one all ≡ Some k → slice_get all k ≡ Some one
      named_there one [] k e = cc
      named_there one (first ∷ all) zero e = ap (λ n. Some n) (same_name first one (place-zero (bytes_eq first one) (place_of one all) e))
      named_there one (first ∷ all) (suc k) e = named_there one all k (place-suc (bytes_eq first one) (place_of one all) k e).1

  last_finished : (course : Course) (names : List (List ℕ)) (at : ℕ) → Finishes names course → IsLastOutput core at names course → finishes_last at names course ≡ true
  last_finished (ends bound acts answer) names at f last = by_first names last.0 at acts last.1 (f last.0 last.2 false)
  last_finished (leaves bound acts leaving later) names at f (inl last) =
      ap (λ b. if b then finish_at at names acts else finishes_last (place_without leaving at) (remove names leaving) later) (eq-eqb leaving at last.0)
      ∙ by_first names last.1 at acts last.2 (f.0 last.1 last.3 (last.2 ∙ ap (λ n. Some n) (sym last.0)) false)
  last_finished (leaves bound acts leaving later) names at f (inr last) =
      ap (λ b. if b then finish_at at names acts else finishes_last (place_without leaving at) (remove names leaving) later) (ne_eqb leaving at last.0)
      ∙ last_finished later (remove names leaving) (place_without leaving at) f.1 last.1

  -- a session begins with the ports that streams declare

  port_at : (n : ℕ) (node : NodeC) (stream : StreamC) → slice_get core.nodes n ≡ Some node → stream_of node ≡ Some stream
      → port_of_node (slice_get core.nodes n) ≡ stream.port
  port_at n node stream there of = ap port_of_node there ∙ ap declared_port of

  module _ (source : List ℕ) (offers : List Offer) (fit : unfit_line (names_of offers) source (std_in ∷ []) (streams core) ≡ None)
      (out : ℕ) (at_out : place_of std_out (names_of offers) ≡ Some out) where
    own_first : AreOwn (first_session core offers)
    own_first = record {
      out = (out, at_out);
      there = λ n node stream at is. (
          let place = fit_there (names_of offers) source core.nodes (std_in ∷ []) fit n node stream at is in
          (place.0, ap (λ name. place_of name (names_of offers)) (port_at n node stream at is) ∙ place.1));
      apart = λ n m node other one two at over is are e. fit_apart (names_of offers) source core.nodes (std_in ∷ []) fit n m node other one two at over is are
          (sym (port_at n node one at is) ∙ e ∙ port_at m other two over are);
    }

    pub session_finishes : (supplies : Supplies) (at : ℕ) → IsLastOutput core at (names_of offers) (session_course core supplies source offers)
        → finishes_last at (names_of offers) (session_course core supplies source offers) ≡ true
    session_finishes supplies at last =
        last_finished (session_course core supplies source offers) (names_of offers) at
        (first_finishes (lines_to std_out (space_table core)) (names_of offers) (served core supplies source (first_session core offers) 1 (lines_of (text_of std_in offers)))
        (lines_finish supplies source (lines_of (text_of std_in offers)) (first_session core offers) 1 own_first)) last
