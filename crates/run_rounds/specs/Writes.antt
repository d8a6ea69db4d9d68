-- What a run writes to which ports: round by round the values that output streams have gained and, in a trace, what is on all wires;
-- then the peaks of all boxes, or the bad line that blocks it.
use Rattle.std.specs.Prelude.{ℕ, ◌-◌, Bool, true, false, List, [], ◌∷◌, ◌++◌, map, length, Option, None, Some, slice_get, codes, decimal, if◌then◌else◌}
use Rattle.std.specs.List.{flat_map, range_with_len}
use Rattle.std.specs.Option.{unwrap_or}
use Rattle.hume_base.specs.declared.types.Value.{Value}
use Rattle.hume_model.specs.declared.core_tree.NodeC.{NodeC}
use Rattle.hume_model.specs.declared.core_tree.NodeC.TheVariants.{From, To}
use Rattle.hume_model.specs.declared.core_tree.Core.{Core}
use Rattle.hume_net.specs.Lockstep.{lockstep}
use Rattle.hume_net.specs.Sides.{on_wire}
use Rattle.hume_net.specs.Start.{start}
use Rattle.hume_net.specs.rounds.Blocked.{blocking, first_blocked}
use Rattle.hume_net.specs.rounds.Rounds.{begins, ends, rounds_of}
use Rattle.hume_net.specs.rounds.Streams.{gained}
use Rattle.hume_ports.specs.Delivery.{Pairs}
use Rattle.hume_streams.specs.places.LineWrites.{line_writes}
use Rattle.net_costs.specs.Steps.{peaks}
use Rattle.trace_print.specs.TraceLines.{step_line, wire_lines, peak_lines}
use Rattle.run_rounds.specs.declared.rounds.TheConstants.{SPAN}
use Rattle.phase_workers.specs.StreamTypes.{type_at}
use Rattle.run_rounds.specs.Streams.{std_out}
use Rattle.run_rounds.specs.Inputs.{Inputs, is_bad}

-- how many supersteps a round has, but for the last: one where all wires are told after each superstep
abbrev pub span_of : Bool → ℕ
span_of traced = if traced then 1 else SPAN

-- each of the lines is written to the port of all that a call tells besides the values of streams
abbrev pub told : List (List ℕ) → Pairs
told lines = map (λ line. (std_out, line)) lines

-- an output stream writes each value that it has taken as a line
abbrev pub writes_of_node : Core → ℕ → Option NodeC → List Value → Pairs
writes_of_node core n (Some (To stream)) values = line_writes stream.port core.types (type_at core n) values
writes_of_node core n _ values = []

-- all nodes, in source order, for what each has taken
abbrev pub writes_of_nodes : Core → (ℕ → List Value) → Pairs
writes_of_nodes core taken = flat_map (λ n. writes_of_node core n (slice_get core.nodes n) (taken n)) (range_with_len 0 (length core.nodes))

-- the superstep of the number and what is on each wire after it
abbrev pub superstep_lines : Core → ℕ → (ℕ → List Value) → List (List ℕ)
superstep_lines core step held = step_line step ∷ wire_lines core held

-- a trace tells the one superstep of a round
abbrev pub trace_writes : Core → List (List Value) → Bool → ℕ → ℕ → Pairs
trace_writes core good true steps round = told (superstep_lines core round (on_wire (lockstep core (start core good) (ends (span_of true) steps round))))
trace_writes core good false steps round = []

-- after a round output streams write what they have gained in it
abbrev pub gained_writes : Core → List (List Value) → ℕ → ℕ → ℕ → Pairs
gained_writes core good span steps round =
    writes_of_nodes core (gained (lockstep core (start core good) (begins span round)) (lockstep core (start core good) (ends span steps round)))

-- what is written after a round
abbrev pub round_writes : Core → List (List Value) → Bool → ℕ → ℕ → Pairs
round_writes core good traced steps round = gained_writes core good (span_of traced) steps round ++ trace_writes core good traced steps round

-- the first rounds
abbrev pub rounds_writes : Core → List (List Value) → Bool → ℕ → ℕ → Pairs
rounds_writes core good traced steps rounds = flat_map (round_writes core good traced steps) (range_with_len 1 rounds)

-- at the end of a run it is told what each box took at most in one of its execute steps
abbrev pub peak_writes : Core → List (List Value) → ℕ → Pairs
peak_writes core good steps = told (peak_lines core (peaks core (start core good) steps))

-- the name of an input stream
abbrev pub name_of : Option NodeC → List ℕ
name_of (Some (From stream)) = stream.name
name_of _ = []

-- bad value STREAM line LINE
abbrev pub bad_value_line : List ℕ → ℕ → List ℕ
bad_value_line name line = codes "bad value " ++ name ++ codes " line " ++ decimal line ++ 10 ∷ []

-- the bad line of the stream that blocks a round is told
abbrev pub bad_value_writes : Core → Inputs → Option ℕ → Pairs
bad_value_writes core inputs None = []
bad_value_writes core inputs (Some n) = (std_out, bad_value_line (name_of (slice_get core.nodes n)) (unwrap_or (inputs.bad n) 0)) ∷ []

-- the first round that a stream blocks by a bad line
abbrev pub blocked_round : Core → Inputs → ℕ → ℕ → Option ℕ
blocked_round core inputs span steps = first_blocked core inputs.good (is_bad inputs) span steps

-- the first stream that blocks a round
abbrev pub blocked_by : Core → Inputs → Bool → ℕ → ℕ → Option ℕ
blocked_by core inputs traced steps round = blocking core inputs.good (is_bad inputs) (span_of traced) steps round

-- what a run writes, by its first blocked round
abbrev pub writes_until : Core → Inputs → Bool → ℕ → Option ℕ → Pairs
writes_until core inputs traced steps None =
    rounds_writes core inputs.good traced steps (rounds_of (span_of traced) steps) ++ peak_writes core inputs.good steps
writes_until core inputs traced steps (Some round) =
    rounds_writes core inputs.good traced steps (round - 1) ++ bad_value_writes core inputs (blocked_by core inputs traced steps round)

-- A run writes all its rounds and then its peaks, or the rounds before the first blocked one and then the bad line.
abbrev pub writes : Core → Inputs → Bool → ℕ → Pairs
writes core inputs traced steps = writes_until core inputs traced steps (blocked_round core inputs (span_of traced) steps)
