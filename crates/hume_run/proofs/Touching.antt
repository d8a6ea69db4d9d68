-- Which ports a run reads, writes and finishes.
use Rattle.std.proofs.Common.{◌≡◌, ℕ, ◌-◌, zero, suc, Bool, true, false, ◌||◌, List, [], ◌∷◌, ◌++◌, map, Option, Some, None, slice_get, refl, ap, sym, ◌∙◌, subst, inl, inr}
use Rattle.std.specs.Prelude.{⊤}
use Rattle.std.specs.List.{filter_map, flat_map}
use Rattle.std.specs.Str.{bytes_eq}
use Rattle.std.proofs.lemmas.Bool.{cases_Bool}
use Rattle.std.proofs.lemmas.Grind.{flat_map-append}
use Rattle.std.proofs.lemmas.List.Folds.{list_any-append}
use Rattle.hume_base.specs.declared.types.Value.{Value}
use Rattle.hume_model.specs.declared.core_tree.NodeC.{NodeC}
use Rattle.hume_model.specs.declared.core_tree.NodeC.TheVariants.{Rules, From, To}
use Rattle.hume_model.specs.declared.core_tree.StreamC.{StreamC}
use Rattle.hume_model.specs.declared.core_tree.Core.{Core}
use Rattle.hume_ports.specs.Ports.{is_among, other_names}
use Rattle.hume_ports.specs.Delivery.{Pairs, names_in}
use Rattle.hume_ports.proofs.Names.{bytes_eq-self, same_name, is_among-other_names}
use Rattle.hume_net.specs.Lockstep.{lockstep}
use Rattle.hume_net.specs.Sides.{on_wire}
use Rattle.hume_net.specs.Start.{start}
use Rattle.hume_net.specs.rounds.Rounds.{begins, ends, rounds_of}
use Rattle.hume_net.specs.rounds.Streams.{gained}
use Rattle.net_costs.specs.Steps.{peaks}
use Rattle.trace_print.specs.table.Table.{space_table}
use Rattle.trace_print.specs.TraceLines.{peak_lines}
use Rattle.hume_streams.specs.Logs.{line_of}
use Rattle.port_acts.specs.Acts.{Act, wants, writes as write_to, finishes, wanted, written, finished, finished_by, write_each, finish_each}
use Rattle.port_acts.proofs.Each.{writes_finish_nothing}
use Rattle.phase_workers.specs.StreamTypes.{type_at}
use Rattle.run_rounds.specs.Streams.{std_out, input_of, inputs, output_of, outputs, ports_of}
use Rattle.run_rounds.specs.Inputs.{Inputs}
use Rattle.run_rounds.specs.Writes.{writes_of_node, writes_of_nodes, superstep_lines, trace_writes, gained_writes, round_writes, rounds_writes, peak_writes, bad_value_writes, writes_until, writes, blocked_round, span_of, blocked_by, told}
use Rattle.run_rounds.specs.RunActs.{run_acts}
use Rattle.hume_calls.specs.Owed.{owed_run, table_writes, run_finishes}
use Rattle.hume_calls.proofs.Wanting.{want_of_run}
use Rattle.hume_calls.proofs.Answering.{WantsTell}
use Rattle.hume_run.proofs.Faulting.{RunsWrite, RunsFinishNothing, run_written}

-- The name of each pair has the property.
abbrev Each : (List ℕ → Type 0) → Pairs → Type 0
Each P [] = ⊤
Each P (pair ∷ pairs) = P pair.0 × Each P pairs

module _ (P : List ℕ → Type 0) where
  each_append : (ps qs : Pairs) → Each P ps → Each P qs → Each P (ps ++ qs)
  each_append [] qs all more = more
  each_append (pair ∷ ps) qs all more = (all.0, each_append ps qs all.1 more)

  each_flat : {X : Type 0} (f : X → Pairs) → ((x : X) → Each P (f x)) → (xs : List X) → Each P (flat_map f xs)
  each_flat f all [] = tt
  each_flat f all (x ∷ xs) = each_append (f x) (flat_map f xs) (all x) (each_flat f all xs)

  each_map : {X : Type 0} (name : List ℕ) (line : X → List ℕ) → P name → (xs : List X) → Each P (map (λ x. (name, line x)) xs)
  each_map name line holds [] = tt
  each_map name line holds (x ∷ xs) = (holds, each_map name line holds xs)

-- a name of such pairs is one of the names
each_among : (names : List (List ℕ)) (pairs : Pairs) → Each (λ name. is_among name names ≡ true) pairs → (name : List ℕ)
    → is_among name (names_in pairs) ≡ true
    → is_among name names ≡ true
each_among names [] all name among = cc
each_among names (pair ∷ pairs) all name among = elim (cases_Bool (bytes_eq name pair.0)) [
  | inl is ↦ subst (λ (n : List ℕ). is_among n names ≡ true) (sym (same_name name pair.0 is)) all.0
  | inr isnt ↦ each_among names pairs all.1 name (rw isnt at among)
]

pub right_true : (a b : Bool) → b ≡ true → (a || b) ≡ true
right_true true b is = refl
right_true false b is = is

left_true : (a b : Bool) → a ≡ true → (a || b) ≡ true
left_true true b is = refl
left_true false b is = cc

pub first_among : (name : List ℕ) (names : List (List ℕ)) → is_among name (name ∷ names) ≡ true
first_among name names = left_true (bytes_eq name name) (is_among name names) (bytes_eq-self name)

module _ (core : Core) where
  -- a run finishes `std_out`, and each output stream's port
  std_out_finished : is_among std_out (run_finishes core) ≡ true
  std_out_finished =
      list_any-append (bytes_eq std_out) (other_names std_out (ports_of (outputs core))) (std_out ∷ [])
      ∙ right_true (is_among std_out (other_names std_out (ports_of (outputs core)))) (is_among std_out (std_out ∷ [])) (first_among std_out [])

  output_finished : (port : List ℕ) → is_among port (ports_of (outputs core)) ≡ true → is_among port (run_finishes core) ≡ true
  output_finished port among = elim (cases_Bool (bytes_eq port std_out)) [
    | inl is ↦ subst (λ (n : List ℕ). is_among n (run_finishes core) ≡ true) (sym (same_name port std_out is)) std_out_finished
    | inr isnt ↦ list_any-append (bytes_eq port) (other_names std_out (ports_of (outputs core))) (std_out ∷ [])
        ∙ left_true (is_among port (other_names std_out (ports_of (outputs core)))) (is_among port (std_out ∷ []))
        (is_among-other_names port std_out (ports_of (outputs core)) ∙ rw isnt among)
  ]

  outputs_among : (nodes : List NodeC) (n : ℕ) (stream : StreamC) → slice_get nodes n ≡ Some (To stream)
      → is_among stream.port (ports_of (filter_map output_of nodes)) ≡ true
  outputs_among [] n stream at = cc
  outputs_among (Rules b ∷ nodes) zero stream at = cc
  outputs_among (Rules b ∷ nodes) (suc n) stream at = outputs_among nodes n stream at
  outputs_among (From other ∷ nodes) zero stream at = cc
  outputs_among (From other ∷ nodes) (suc n) stream at = outputs_among nodes n stream at
  outputs_among (To other ∷ nodes) zero stream at =
      let same : other ≡ stream = cc in
      subst (λ (s : StreamC). is_among s.port (ports_of (filter_map output_of (To other ∷ nodes))) ≡ true) same
      (first_among other.port (ports_of (filter_map output_of nodes)))
  outputs_among (To other ∷ nodes) (suc n) stream at =
      right_true (bytes_eq stream.port other.port) (is_among stream.port (ports_of (filter_map output_of nodes))) (outputs_among nodes n stream at)

  pub inputs_among : (nodes : List NodeC) (n : ℕ) (stream : StreamC) → slice_get nodes n ≡ Some (From stream)
      → is_among stream.port (ports_of (filter_map input_of nodes)) ≡ true
  inputs_among [] n stream at = cc
  inputs_among (Rules b ∷ nodes) zero stream at = cc
  inputs_among (Rules b ∷ nodes) (suc n) stream at = inputs_among nodes n stream at
  inputs_among (To other ∷ nodes) zero stream at = cc
  inputs_among (To other ∷ nodes) (suc n) stream at = inputs_among nodes n stream at
  inputs_among (From other ∷ nodes) zero stream at =
      let same : other ≡ stream = cc in
      subst (λ (s : StreamC). is_among s.port (ports_of (filter_map input_of (From other ∷ nodes))) ≡ true) same
      (first_among other.port (ports_of (filter_map input_of nodes)))
  inputs_among (From other ∷ nodes) (suc n) stream at =
      right_true (bytes_eq stream.port other.port) (is_among stream.port (ports_of (filter_map input_of nodes))) (inputs_among nodes n stream at)

  -- what is written goes to a port that is finished

  abbrev IsFinished : List ℕ → Type 0
  IsFinished name = is_among name (run_finishes core) ≡ true

  told_each : (lines : List (List ℕ)) → Each IsFinished (told lines)
  told_each lines = each_map IsFinished std_out (λ line. line) std_out_finished lines

  node_each : (n : ℕ) (o : Option NodeC) → slice_get core.nodes n ≡ o → (values : List Value) → Each IsFinished (writes_of_node core n o values)
  node_each n None at values = tt
  node_each n (Some (Rules b)) at values = tt
  node_each n (Some (From stream)) at values = tt
  node_each n (Some (To stream)) at values =
      each_map IsFinished stream.port (line_of core.types (type_at core n)) (output_finished stream.port (outputs_among core.nodes n stream at)) values

  nodes_each : (taken : ℕ → List Value) → Each IsFinished (writes_of_nodes core taken)
  nodes_each taken = each_flat IsFinished (λ n. writes_of_node core n (slice_get core.nodes n) (taken n))
      (λ n. node_each n (slice_get core.nodes n) refl (taken n)) _

  trace_each : (good : List (List Value)) (traced : Bool) (steps round : ℕ) → Each IsFinished (trace_writes core good traced steps round)
  trace_each good true steps round =
      told_each (superstep_lines core round (on_wire (lockstep core (start core good) (ends (span_of true) steps round))))
  trace_each good false steps round = tt

  rounds_each : (good : List (List Value)) (traced : Bool) (steps rounds : ℕ) → Each IsFinished (rounds_writes core good traced steps rounds)
  rounds_each good traced steps rounds = each_flat IsFinished (round_writes core good traced steps)
      (λ round. each_append IsFinished (gained_writes core good (span_of traced) steps round) (trace_writes core good traced steps round)
      (nodes_each (gained (lockstep core (start core good) (begins (span_of traced) round)) (lockstep core (start core good) (ends (span_of traced) steps round)))) (trace_each good traced steps round)) _

  bad_each : (coming : Inputs) (o : Option ℕ) → Each IsFinished (bad_value_writes core coming o)
  bad_each coming None = tt
  bad_each coming (Some n) = (std_out_finished, tt)

  until_each : (coming : Inputs) (traced : Bool) (steps : ℕ) (o : Option ℕ) → Each IsFinished (writes_until core coming traced steps o)
  until_each coming traced steps None = each_append IsFinished (rounds_writes core coming.good traced steps (rounds_of (span_of traced) steps))
      (peak_writes core coming.good steps) (rounds_each coming.good traced steps (rounds_of (span_of traced) steps))
      (told_each (peak_lines core (peaks core (start core coming.good) steps)))
  until_each coming traced steps (Some round) =
      each_append IsFinished (rounds_writes core coming.good traced steps (round - 1))
      (bad_value_writes core coming (blocked_by core coming traced steps round))
      (rounds_each coming.good traced steps (round - 1)) (bad_each coming (blocked_by core coming traced steps round))

  pub run_writes_to : RunsWrite → (coming : Inputs) (traced : Bool) (steps : ℕ) (name : List ℕ)
      → is_among name (names_in (written (owed_run traced steps core coming).acts)) ≡ true → is_among name (run_finishes core) ≡ true
  run_writes_to runs coming traced steps name among =
      each_among (run_finishes core) (table_writes core ++ writes core coming traced steps)
      (each_append IsFinished (table_writes core) (writes core coming traced steps) (told_each (space_table core))
      (until_each coming traced steps (blocked_round core coming (span_of traced) steps)))
      name (subst (λ (pairs : Pairs). is_among name (names_in pairs) ≡ true) (run_written runs core coming traced steps) among)

  -- what is read is an input stream's port

  pub among_want : (acts : List Act) (name : List ℕ) → is_among name (wanted acts) ≡ true
      → (before : List Act) × (count : ℕ) × (later : List Act) × (acts ≡ before ++ wants name count ∷ later)
  among_want [] name among = cc
  among_want (wants other count ∷ acts) name among = elim (cases_Bool (bytes_eq name other)) [
    | inl is ↦ ([], count, acts, ap (λ (n : List ℕ). wants n count ∷ acts) (sym (same_name name other is)))
    | inr isnt ↦
        let rest = among_want acts name (rw isnt at among) in
        (wants other count ∷ rest.0, rest.1, rest.2, ap (λ (others : List Act). wants other count ∷ others) rest.3)
  ]
  among_want (write_to other bytes ∷ acts) name among =
      let rest = among_want acts name among in
      (write_to other bytes ∷ rest.0, rest.1, rest.2, ap (λ (others : List Act). write_to other bytes ∷ others) rest.3)
  among_want (finishes other ∷ acts) name among =
      let rest = among_want acts name among in
      (finishes other ∷ rest.0, rest.1, rest.2, ap (λ (others : List Act). finishes other ∷ others) rest.3)

  pub run_reads_from : (coming : Inputs) (traced : Bool) (steps : ℕ) → WantsTell core coming traced steps → (name : List ℕ)
      → is_among name (wanted (owed_run traced steps core coming).acts) ≡ true → is_among name (ports_of (inputs core)) ≡ true
  run_reads_from coming traced steps tell name among =
      let want = among_want (owed_run traced steps core coming).acts name among in
      let inside = want_of_run (table_writes core) (run_acts core coming traced steps) (run_finishes core) want.0 want.2 name want.1 want.3 in
      let reads = tell inside.0 inside.1 name want.1 inside.3 in
      subst (λ (n : List ℕ). is_among n (ports_of (inputs core)) ≡ true) (sym reads.is_port) (inputs_among core.nodes reads.node reads.stream reads.at)

  -- finishes

  pub all_finished : (names : List (List ℕ)) → finished (finish_each names) ≡ names
  all_finished [] = refl
  all_finished (name ∷ names) = ap (λ (others : List (List ℕ)). name ∷ others) (all_finished names)

  pub run_finishes_each : RunsFinishNothing → (coming : Inputs) (traced : Bool) (steps : ℕ)
      → finished (owed_run traced steps core coming).acts ≡ run_finishes core
  run_finishes_each none coming traced steps =
      let table : List Act = write_each (table_writes core) in
      let run : List Act = run_acts core coming traced steps in
      let last : List Act = finish_each (run_finishes core) in
      flat_map-append finished_by table (run ++ last)
      ∙ ap (λ (later : List (List ℕ)). finished table ++ later) (flat_map-append finished_by run last)
      ∙ rw (writes_finish_nothing (table_writes core), none core coming traced steps) (all_finished (run_finishes core))
