-- Output streams that are written and cleared one after another.
use Rattle.std.proofs.Common.{◌≡◌, ℕ, zero, suc, ◌+◌, ◌<◌, ◌≤◌, List, [], ◌∷◌, ◌++◌, length, map, refl, ap, sym, ◌∙◌, subst, inl, inr, arith, Option, None, Some, Result, Ok, Err}
use Rattle.std.specs.Prelude.{OnOk, slice_get, slice_index_or, slice_set}
use Rattle.std.specs.List.{flat_map, range_with_len}
use Rattle.std.specs.Option.{unwrap_or}
use Rattle.std.proofs.lemmas.Option.{slice_get_within}
use Rattle.std.proofs.lemmas.List.{length-map, map-append}
use Rattle.hume_base.specs.declared.types.Value.{Value}
use Rattle.hume_model.specs.declared.core_tree.NodeC.{NodeC}
use Rattle.hume_model.specs.declared.core_tree.NodeC.TheVariants.{Rules, From, To}
use Rattle.hume_model.specs.declared.core_tree.StreamC.{StreamC}
use Rattle.hume_model.specs.declared.core_tree.Core.{Core}
use Rattle.hume_net.specs.declared.state.State.{State}
use Rattle.hume_net.specs.Nodes.{IsOutput, IsOutputStream}
use Rattle.hume_net.specs.Parts.{IsStateOf}
use Rattle.hume_net.specs.Sides.{part_of}
use Rattle.hume_net.specs.Start.{no_values}
use Rattle.hume_net.proofs.Parts.{own_list}
use Rattle.hume_ports.specs.declared.port.Failed.{Failed}
use Rattle.hume_ports.specs.Port.{PortView}
use Rattle.hume_ports.specs.Ports.{names, place_of, ForNameAt}
use Rattle.hume_ports.specs.Delivery.{Pairs}
use Rattle.hume_text.specs.declared.chunk.Chunk.{Chunk}
use Rattle.hume_text.specs.Chunks.{room_of}
use Rattle.port_acts.specs.Acts.{Act, write_each, writes}
use Rattle.port_acts.specs.Ends.{Ends, Fails, Made, never}
use Rattle.port_acts.proofs.Failing.{Fails-on, Fails-stop}
use Rattle.port_acts.proofs.Making.{Made-on, Made-start}
use Rattle.phase_workers.specs.Engines.{EngineView as Engine}
use Rattle.phase_workers.specs.Engines.{core_of, queue_at, span_of, state_of, ArePeaksKept}
use Rattle.run_rounds.proofs.Ranges.{flat_more, flat_within}
use Rattle.hume_console.specs.inner.Stepping.{AreWithin, HavePlaces, OnlyOutputsTook, cleared_at, lines_at, lines_of_all}
use Rattle.hume_console.proofs.FedStates.{set_length}
use Rattle.hume_console.proofs.StepFilling.{before_or_last}

-- the state in which the first nodes are cleared
abbrev pub cleared_below : Core → ℕ → State → State
cleared_below core zero state = state
cleared_below core (suc n) state = cleared_at n (slice_get core.nodes n) (cleared_below core n state)

-- clearing changes only what was taken
cleared_taken : (n : ℕ) (o : Option NodeC) (state : State) (taken : List (List Value))
    → cleared_at n o (record state { taken = taken }) ≡ record state { taken = (cleared_at n o (record state { taken = taken })).taken }
cleared_taken n None state taken = refl
cleared_taken n (Some (Rules b)) state taken = refl
cleared_taken n (Some (From stream)) state taken = refl
cleared_taken n (Some (To stream)) state taken = refl

only_taken : (core : Core) (k : ℕ) (state : State) → cleared_below core k state ≡ record state { taken = (cleared_below core k state).taken }
only_taken core zero state = refl
only_taken core (suc k) state =
    let o : Option NodeC = slice_get core.nodes k in
    ap (cleared_at k o) (only_taken core k state) ∙ cleared_taken k o state (cleared_below core k state).taken
    ∙ ap (λ (s : State). record state { taken = (cleared_at k o s).taken }) (sym (only_taken core k state))

set_at : (lists : List (List Value)) (n : ℕ) → unwrap_or (slice_get (slice_set lists n []) n) [] ≡ []
set_at [] n = refl
set_at (first ∷ lists) zero = refl
set_at (first ∷ lists) (suc n) = set_at lists n

set_else : (lists : List (List Value)) (n m : ℕ) → (m ≡ n → ⊥) → unwrap_or (slice_get (slice_set lists n []) m) [] ≡ unwrap_or (slice_get lists m) []
set_else [] n m differ = refl
set_else (first ∷ lists) zero zero differ = absurd (differ refl)
set_else (first ∷ lists) zero (suc m) differ = refl
set_else (first ∷ lists) (suc n) zero differ = refl
set_else (first ∷ lists) (suc n) (suc m) differ = set_else lists n m (λ same. differ (ap suc same))

node_else : (n m : ℕ) (o : Option NodeC) (state : State) → (m ≡ n → ⊥) → (part_of (cleared_at n o state) m).taken ≡ (part_of state m).taken
node_else n m None state differ = refl
node_else n m (Some (Rules b)) state differ = refl
node_else n m (Some (From stream)) state differ = refl
node_else n m (Some (To stream)) state differ = set_else state.taken n m differ

-- later nodes have taken what they had
pub later_kept : (core : Core) (k m : ℕ) (state : State) → k ≤ m → (part_of (cleared_below core k state) m).taken ≡ (part_of state m).taken
later_kept core zero m state past = refl
later_kept core (suc k) m state past =
    node_else k m (slice_get core.nodes k) (cleared_below core k state) (λ same. omega (arith, past, same)) ∙ later_kept core k m state (omega (arith, past))

node_length : (n : ℕ) (o : Option NodeC) (state : State) → length (cleared_at n o state).taken ≡ length state.taken
node_length n None state = refl
node_length n (Some (Rules b)) state = refl
node_length n (Some (From stream)) state = refl
node_length n (Some (To stream)) state = set_length state.taken n []

long_below : (core : Core) (k : ℕ) (state : State) → length (cleared_below core k state).taken ≡ length state.taken
long_below core zero state = refl
long_below core (suc k) state = node_length k (slice_get core.nodes k) (cleared_below core k state) ∙ long_below core k state

-- the first nodes have taken nothing
none_below : (core : Core) (k m : ℕ) (state : State) → OnlyOutputsTook core state → m < k → (part_of (cleared_below core k state) m).taken ≡ []
none_below core zero m state only less = absurd (omega (arith, less))
none_below core (suc k) m state only less = elim (before_or_last m k (omega (arith, less))) [
  | inl before ↦ node_else k m (slice_get core.nodes k) (cleared_below core k state) (λ same. omega (arith, before, same)) ∙ none_below core k m state only before
  | inr last ↦ ap (λ j. (part_of (cleared_below core (suc k) state) j).taken) last ∙ here (slice_get core.nodes k) refl
]
  where
    here : (o : Option NodeC) → slice_get core.nodes k ≡ o → (part_of (cleared_at k o (cleared_below core k state)) k).taken ≡ []
    here (Some (To stream)) is = set_at (cleared_below core k state).taken k
    here None is = later_kept core k k state (omega arith) ∙ only k (λ output. subst IsOutput is output)
    here (Some (Rules b)) is = later_kept core k k state (omega arith) ∙ only k (λ output. subst IsOutput is output)
    here (Some (From stream)) is = later_kept core k k state (omega arith) ∙ only k (λ output. subst IsOutput is output)

pub all_cleared : (core : Core) (state : State) → IsStateOf core state → OnlyOutputsTook core state
    → cleared_below core (length core.nodes) state ≡ record state { taken = no_values core }
all_cleared core state parts only =
    let taken : List (List Value) = (cleared_below core (length core.nodes) state).taken in
    let long : length taken ≡ length core.nodes = long_below core (length core.nodes) state ∙ parts.taken in
    only_taken core (length core.nodes) state
    ∙ ap (λ (ts : List (List Value)). record state { taken = ts }) (sym (own_list (length core.nodes) (λ n. []) taken long
    (λ n list e. sym (none_below core (length core.nodes) n state only (subst (λ k. n < k) long (slice_get_within taken n list e))) ∙ ap (λ o. unwrap_or o []) e)))

-- the loop

pub each_append : (first second : Pairs) → write_each (first ++ second) ≡ write_each first ++ write_each second
each_append first second = map-append (λ pair. writes pair.0 pair.1) first second

-- the lines of the first nodes
abbrev pub lines_below : Core → (ℕ → List ℕ) → State → ℕ → Pairs
lines_below core port state count = flat_map (λ n. lines_at core (port n) n (slice_get core.nodes n) (part_of state n).taken) (range_with_len 0 count)

pub record Draining (before ports : List PortView) (first engine : Engine) (old chunk : Chunk) (places : List ℕ) (count : ℕ) : Type 0 where
  pub is_core : core_of engine ≡ core_of first
  pub is_span : span_of engine ≡ span_of first
  pub queues : (n : ℕ) → queue_at engine n ≡ queue_at first n
  pub peaks : ArePeaksKept first engine
  pub same_names : names ports ≡ names before
  pub room : room_of chunk ≡ room_of old
  pub most : count ≤ length (core_of first).nodes
  pub made : (port : ℕ → List ℕ) → HavePlaces (core_of first) port (names before) places
      → Made (write_each (lines_below (core_of first) port (state_of first) count)) [] before ports
  pub state : state_of engine ≡ cleared_below (core_of first) count (state_of first)

pub draining_none : (ports : List PortView) (engine : Engine) (chunk : Chunk) (places : List ℕ) → Draining ports ports engine engine chunk chunk places 0
draining_none ports engine chunk places = record {
  is_core = refl;
  is_span = refl;
  queues = λ n. refl;
  peaks = record { heap = λ n. refl; stack = λ n. refl };
  same_names = refl;
  room = refl;
  most = omega arith;
  made = λ port have. Made-start ports;
  state = refl;
}

-- what is said of a node that is no output stream, for the core as it was at first
pub quiet_as : (core other : Core) (n : ℕ) (mids news : List PortView) (result : Result (Unit {0}) Failed) → other ≡ core
    → ((IsOutputStream other n → ⊥) → Ends never [] [] [] mids news result) → (IsOutputStream core n → ⊥) → Ends never [] [] [] mids news result
quiet_as core other n mids news result same quiet isnt = quiet (λ output. isnt (subst (λ (c : Core). IsOutputStream c n) same output))

module _ (before mids news : List PortView) (first engine new : Engine) (old mid chunk : Chunk) (places : List ℕ) (count at : ℕ)
    (it : Draining before mids first engine old mid places count) (within : count < length (core_of first).nodes)
    (at_is : at ≡ slice_index_or places count 0) where
  abbrev core : Core
  core = core_of first

  abbrev Of : (ℕ → List ℕ) → ℕ → Pairs
  Of port n = lines_at core (port n) n (slice_get core.nodes n) (part_of (state_of first) n).taken

  abbrev Done : (ℕ → List ℕ) → ℕ → Pairs
  Done port k = lines_below core port (state_of first) k

  more : (port : ℕ → List ℕ) → write_each (Done port (count + 1)) ≡ write_each (Done port count) ++ write_each (Of port count)
  more port =
      let next : count + 1 ≡ suc count = omega arith in
      let here : 0 + count ≡ count = omega arith in
      ap (λ k. write_each (Done port k)) next ∙ ap write_each (flat_more (Of port) 0 count ∙ ap (λ k. Done port count ++ Of port k) here)
      ∙ each_append (Done port count) (Of port count)

  abbrev NodeWrites : Result (Unit {0}) Failed → Type 0
  NodeWrites result = ForNameAt at mids (λ name. Ends never []
      (write_each (lines_at (core_of engine) name count (slice_get (core_of engine).nodes count) (part_of (state_of engine) count).taken)) [] mids news result)

  -- what the node writes is what it had taken at first
  same_lines : (name : List ℕ) → lines_at (core_of engine) name count (slice_get (core_of engine).nodes count) (part_of (state_of engine) count).taken
      ≡ lines_at core name count (slice_get core.nodes count) (part_of (state_of first) count).taken
  same_lines name =
      ap (λ (c : Core). lines_at c name count (slice_get c.nodes count) (part_of (state_of engine) count).taken) it.is_core
      ∙ ap (lines_at core name count (slice_get core.nodes count))
      (ap (λ (s : State). (part_of s count).taken) it.state ∙ later_kept core count count (state_of first) (omega arith))

  -- a node that is no output stream writes nothing
  no_lines : (port : ℕ → List ℕ) (o : Option NodeC) → (IsOutput o → ⊥) → (values : List Value) → lines_at core (port count) count o values ≡ []
  no_lines port None other values = refl
  no_lines port (Some (Rules b)) other values = refl
  no_lines port (Some (From stream)) other values = refl
  no_lines port (Some (To stream)) other values = absurd (other tt)

  module _ (port : ℕ → List ℕ) (have : HavePlaces core port (names before) places) where
    here_of : (stream : StreamC) → slice_get core.nodes count ≡ Some (To stream) → place_of (port count) (names mids) ≡ Some at
    here_of stream is = ap (place_of (port count)) it.same_names ∙ have count stream is ∙ ap (λ k. Some k) (sym at_is)

    own : (result : Result (Unit {0}) Failed) → NodeWrites result → (quiet : (IsOutputStream core count → ⊥) → Ends never [] [] [] mids news result)
        → (o : Option NodeC) → slice_get core.nodes count ≡ o → Ends never [] (write_each (Of port count)) [] mids news result
    own result ends quiet (Some (To stream)) is =
        subst (λ (pairs : Pairs). Ends never [] (write_each pairs) [] mids news result) (same_lines (port count)) (ends (port count) (here_of stream is))
    own result ends quiet None is = other_ends (λ output. subst IsOutput is output)
      where
        other_ends : (IsOutputStream core count → ⊥) → Ends never [] (write_each (Of port count)) [] mids news result
        other_ends other = subst (λ (pairs : Pairs). Ends never [] (write_each pairs) [] mids news result)
            (sym (no_lines port (slice_get core.nodes count) other (part_of (state_of first) count).taken)) (quiet other)
    own result ends quiet (Some (Rules b)) is = subst (λ (pairs : Pairs). Ends never [] (write_each pairs) [] mids news result)
        (sym (no_lines port (slice_get core.nodes count) (λ output. subst IsOutput is output) (part_of (state_of first) count).taken)) (quiet (λ output. subst IsOutput is output))
    own result ends quiet (Some (From stream)) is = subst (λ (pairs : Pairs). Ends never [] (write_each pairs) [] mids news result)
        (sym (no_lines port (slice_get core.nodes count) (λ output. subst IsOutput is output) (part_of (state_of first) count).taken)) (quiet (λ output. subst IsOutput is output))

  cleared_next : state_of new ≡ cleared_at count (slice_get (core_of engine).nodes count) (state_of engine) → state_of new ≡ cleared_below core (count + 1) (state_of first)
  cleared_next is =
      let next : count + 1 ≡ suc count = omega arith in
      is ∙ ap (λ (c : Core). cleared_at count (slice_get c.nodes count) (state_of engine)) it.is_core
      ∙ ap (cleared_at count (slice_get core.nodes count)) it.state ∙ ap (λ k. cleared_below core k (state_of first)) (sym next)

  pub draining_next : (result : Result (Unit {0}) Failed) → result ≡ Ok tt → NodeWrites result
      → ((IsOutputStream core count → ⊥) → Ends never [] [] [] mids news result) → core_of new ≡ core_of engine → span_of new ≡ span_of engine
      → ((n : ℕ) → queue_at new n ≡ queue_at engine n) → ArePeaksKept engine new → names news ≡ names mids → room_of chunk ≡ room_of mid
      → OnOk result (state_of new ≡ cleared_at count (slice_get (core_of engine).nodes count) (state_of engine))
      → Draining before news first new old chunk places (count + 1)
  draining_next (Ok done) is ends quiet same_core same_span queues peaks same room clears = record {
    is_core = same_core ∙ it.is_core;
    is_span = same_span ∙ it.is_span;
    queues = λ n. queues n ∙ it.queues n;
    peaks = record { heap = λ n. peaks.heap n ∙ it.peaks.heap n; stack = λ n. peaks.stack n ∙ it.peaks.stack n };
    same_names = same ∙ it.same_names;
    room = room ∙ it.room;
    most = omega (arith, within);
    made = λ port have. subst (λ (acts : List Act). Made acts [] before news) (sym (more port))
        (Made-on (write_each (Done port count)) (write_each (Of port count)) [] [] before mids news (it.made port have)
        (own port have (Ok done) ends quiet (slice_get core.nodes count) refl));
    state = cleared_next clears;
  }
  draining_next (Err failed) is ends quiet same_core same_span queues peaks same room clears = cc

  pub draining_failed : (result : Result (Unit {0}) Failed) (failed : Failed) → result ≡ Err failed → NodeWrites result
      → ((IsOutputStream core count → ⊥) → Ends never [] [] [] mids news result)
      → (port : ℕ → List ℕ) → HavePlaces core port (names before) places → Fails never [] (write_each (lines_of_all core port (state_of first))) before news
  draining_failed (Ok done) failed is ends quiet port have = cc
  draining_failed (Err other) failed is ends quiet port have =
      let all = flat_within (Of port) 0 (count + 1) (length core.nodes) (omega (arith, within)) in
      let here : Fails never [] (write_each (Done port count) ++ write_each (Of port count)) before news =
      Fails-on never [] [] (write_each (Done port count)) (write_each (Of port count)) before mids news (it.made port have)
      (own port have (Err other) ends quiet (slice_get core.nodes count) refl) in
      let whole : write_each (lines_of_all core port (state_of first)) ≡ (write_each (Done port count) ++ write_each (Of port count)) ++ write_each all.0 =
      ap write_each all.1 ∙ each_append (Done port (count + 1)) all.0 ∙ ap (λ (acts : List Act). acts ++ write_each all.0) (more port) in
      subst (λ (acts : List Act). Fails never [] acts before news) (sym whole)
      (Fails-stop never [] (write_each (Done port count) ++ write_each (Of port count)) (write_each all.0) before news here)

-- all were written and cleared
module _ (before mids : List PortView) (first engine : Engine) (old mid : Chunk) (places : List ℕ) (count : ℕ) (it : Draining before mids first engine old mid places count)
    (past : length (core_of first).nodes ≤ count) where
  all_nodes : count ≡ length (core_of first).nodes
  all_nodes = (let most = it.most in omega (arith, past, most))

  pub draining_made : (port : ℕ → List ℕ) → HavePlaces (core_of first) port (names before) places
      → Made (write_each (lines_of_all (core_of first) port (state_of first))) [] before mids
  draining_made port have = subst (λ k. Made (write_each (lines_below (core_of first) port (state_of first) k)) [] before mids) all_nodes (it.made port have)

  pub draining_cleared : IsStateOf (core_of first) (state_of first) → OnlyOutputsTook (core_of first) (state_of first)
      → state_of engine ≡ record (state_of first) { taken = no_values (core_of first) }
  draining_cleared parts only = it.state ∙ ap (λ k. cleared_below (core_of first) k (state_of first)) all_nodes ∙ all_cleared (core_of first) (state_of first) parts only

-- the place of an output stream's port
pub drains_within : {X : Type 0} (view : X → PortView) (first_ports ports : List X) (first engine : Engine) (old mid : Chunk) (places : List ℕ) (count : ℕ)
    → Draining (map view first_ports) (map view ports) first engine old mid places count → AreWithin (core_of first) (length first_ports) places
    → (stream : StreamC) → slice_get (core_of engine).nodes count ≡ Some (To stream) → slice_index_or places count 0 < length ports
drains_within view first_ports ports first engine old mid places count it within stream is =
    let there = subst (λ (c : Core). slice_get c.nodes count ≡ Some (To stream)) it.is_core is in
    let long : length ports ≡ length first_ports =
    sym (length-map (map view ports) (λ (port : PortView). port.name) ∙ length-map ports view) ∙ ap length it.same_names
    ∙ length-map (map view first_ports) (λ (port : PortView). port.name) ∙ length-map first_ports view in
    subst (λ most. slice_index_or places count 0 < most) (sym long) (within.each count stream there)
