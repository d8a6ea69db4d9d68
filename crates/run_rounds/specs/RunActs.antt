-- The acts of a run: before each round its input streams are read, and after it its lines are written, each by an act of its own.
use Rattle.std.specs.Prelude.{◌≡◌, ℕ, ◌+◌, ◌-◌, ◌<◌, Bool, List, [], ◌∷◌, ◌++◌, length, Option, None, Some, slice_get}
use Rattle.std.specs.List.{flat_map, range_with_len}
use Rattle.hume_base.specs.declared.types.Value.{Value}
use Rattle.hume_model.specs.declared.core_tree.NodeC.{NodeC}
use Rattle.hume_model.specs.declared.core_tree.NodeC.TheVariants.{From}
use Rattle.hume_model.specs.declared.core_tree.StreamC.{StreamC}
use Rattle.hume_model.specs.declared.core_tree.Core.{Core}
use Rattle.hume_net.specs.Lockstep.{lockstep}
use Rattle.hume_net.specs.Start.{start}
use Rattle.hume_net.specs.rounds.Rounds.{IsRound, begins, length_of, rounds_of}
use Rattle.hume_net.specs.rounds.Streams.{asserted_between}
use Rattle.hume_streams.specs.Good.{IsGoodUntil}
use Rattle.hume_streams.specs.Lines.{whole_lines}
use Rattle.port_acts.specs.Acts.{Act, wants, write_each, written}
use Rattle.port_acts.specs.Ends.{Few}
use Rattle.port_acts.specs.Rounds.{round_acts}
use Rattle.phase_workers.specs.StreamTypes.{type_at}
use Rattle.run_rounds.specs.Inputs.{Inputs}
use Rattle.run_rounds.specs.Writes.{span_of, round_writes, rounds_writes, peak_writes, bad_value_writes, blocked_by, blocked_round}

-- how many values an input stream must have brought when a round begins: those that it has asserted and those that the round may need
abbrev pub needed : Core → List (List Value) → ℕ → ℕ → ℕ → ℕ → ℕ
needed core good span steps round node =
    length (asserted_between (start core good) (lockstep core (start core good) (begins span round)) node) + length_of span steps round

-- an input stream is read until it has brought them; nothing else is read
abbrev pub wants_of_node : Core → List (List Value) → ℕ → ℕ → ℕ → ℕ → Option NodeC → List Act
wants_of_node core good span steps round n (Some (From stream)) = wants stream.port (needed core good span steps round n) ∷ []
wants_of_node core good span steps round n _ = []

-- before a round the input streams among the first nodes are read, in source order
abbrev pub round_wants : Core → List (List Value) → ℕ → ℕ → ℕ → ℕ → List Act
round_wants core good span steps round count = flat_map (λ n. wants_of_node core good span steps round n (slice_get core.nodes n)) (range_with_len 0 count)

-- what a round reads, where it may begin, and what is then written
abbrev pub reading : Core → List (List Value) → Bool → ℕ → ℕ → List Act
reading core good traced steps round = round_wants core good (span_of traced) steps round (length core.nodes)

abbrev pub writing : Core → List (List Value) → Bool → ℕ → ℕ → List Act
writing core good traced steps round = write_each (round_writes core good traced steps round)

-- the first rounds, each of which may begin
abbrev pub rounds_acts : Core → List (List Value) → Bool → ℕ → ℕ → List Act
rounds_acts core good traced steps count = round_acts (reading core good traced steps) (writing core good traced steps) (range_with_len 1 count)

-- a round that a stream blocks: streams are read up to that one, and its bad line is told
abbrev pub blocked_acts : Core → Inputs → Bool → ℕ → ℕ → Option ℕ → List Act
blocked_acts core inputs traced steps round None = []
blocked_acts core inputs traced steps round (Some n) =
    round_wants core inputs.good (span_of traced) steps round (n + 1) ++ write_each (bad_value_writes core inputs (Some n))

-- a round that a stream blocks: streams are read up to that one
abbrev pub blocked_wants : Core → Inputs → Bool → ℕ → ℕ → Option ℕ → List Act
blocked_wants core inputs traced steps round None = []
blocked_wants core inputs traced steps round (Some n) = round_wants core inputs.good (span_of traced) steps round (n + 1)

-- the acts of rounds, by the first blocked one
abbrev pub made_until : Core → Inputs → Bool → ℕ → Option ℕ → List Act
made_until core inputs traced steps None = rounds_acts core inputs.good traced steps (rounds_of (span_of traced) steps)
made_until core inputs traced steps (Some round) =
    rounds_acts core inputs.good traced steps (round - 1) ++ blocked_wants core inputs traced steps round (blocked_by core inputs traced steps round)

-- The rounds of a run, before anything is told of them: all of them, or those before the first blocked one and the reads of that one.
abbrev pub made_acts : Core → Inputs → Bool → ℕ → List Act
made_acts core inputs traced steps = made_until core inputs traced steps (blocked_round core inputs (span_of traced) steps)

-- the acts of a run, by its first blocked round
abbrev pub acts_until : Core → Inputs → Bool → ℕ → Option ℕ → List Act
acts_until core inputs traced steps None =
    rounds_acts core inputs.good traced steps (rounds_of (span_of traced) steps) ++ write_each (peak_writes core inputs.good steps)
acts_until core inputs traced steps (Some round) =
    rounds_acts core inputs.good traced steps (round - 1) ++ blocked_acts core inputs traced steps round (blocked_by core inputs traced steps round)

-- A run makes all its rounds and then tells its peaks, or the rounds before the first blocked one and that one as far as it goes.
abbrev pub run_acts : Core → Inputs → Bool → ℕ → List Act
run_acts core inputs traced steps = acts_until core inputs traced steps (blocked_round core inputs (span_of traced) steps)

-- The whole lines of these bytes have fewer good values than are wanted of the input stream of the port.
abbrev pub run_few : Core → Few
run_few core name count bytes = (node : ℕ) (stream : StreamC) → slice_get core.nodes node ≡ Some (From stream) → stream.port ≡ name
    → (good : List Value) (bad : Option ℕ) → IsGoodUntil core.types (type_at core node) (whole_lines bytes) good bad → length good < count

-- A want of a run reads an input stream before a round, until the stream has brought what the round may need. Before it exactly
-- the earlier rounds have written.
pub record ReadsForRound (core : Core) (good : List (List Value)) (traced : Bool) (steps : ℕ) (before : List Act) (name : List ℕ) (count : ℕ) : Type 0 where
  pub round : ℕ
  pub is_round : IsRound (span_of traced) steps round
  pub node : ℕ
  pub stream : StreamC
  pub at : slice_get core.nodes node ≡ Some (From stream)
  pub is_port : name ≡ stream.port
  pub is_needed : count ≡ needed core good (span_of traced) steps round node
  pub wrote : written before ≡ rounds_writes core good traced steps (round - 1)
