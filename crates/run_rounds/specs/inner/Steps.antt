-- Where a run with an engine stands, and how its fills and rounds end.
use Rattle.std.specs.Prelude.{◌≡◌, ℕ, ◌+◌, ◌<◌, min, suc, Bool, List, ◌++◌, length, Option, None, Some, slice_get, Result, Ok, Err}
use Rattle.hume_base.specs.declared.types.Value.{Value}
use Rattle.hume_model.specs.declared.core_tree.NodeC.TheVariants.{From}
use Rattle.hume_model.specs.declared.core_tree.StreamC.{StreamC}
use Rattle.hume_model.specs.declared.core_tree.Core.{Core}
use Rattle.hume_net.specs.Parts.{IsStateOf}
use Rattle.hume_net.specs.rounds.Rounds.{IsRound, length_of, made as after_rounds, rounds_of}
use Rattle.hume_ports.specs.declared.port.Failed.{Failed}
use Rattle.hume_ports.specs.Port.{PortView, last_count}
use Rattle.hume_ports.specs.Delivery.{Pairs}
use Rattle.port_acts.specs.Acts.{Act}
use Rattle.port_acts.specs.Ends.{Made}
use Rattle.run_rounds.specs.declared.bad_line.BadLine.{BadLine}
use Rattle.phase_workers.specs.Engines.{EngineView as Engine}
use Rattle.phase_workers.specs.Engines.{core_of, coming_at, queue_at, span_of as room_of, state_of}
use Rattle.run_rounds.specs.Inputs.{Inputs}
use Rattle.run_rounds.specs.Writes.{span_of}
use Rattle.run_rounds.specs.RunActs.{round_wants, rounds_acts}
use Rattle.run_rounds.specs.MadeRounds.{FailsInRounds}
use Rattle.run_rounds.specs.inner.Beginning.{MayBegin, StandsBeforeBad}
use Rattle.run_rounds.specs.inner.Reading.{MayCome}
use Rattle.run_rounds.specs.inner.Standing.{ArePeaks, EndsAreTold, IsAfter}

-- After so many rounds the engine is where the whole run is, and whatever may come, the acts that were made are these.
pub record Stands (core : Core) (traced : Bool) (steps done : ℕ) (acts_of : List (List Value) → List Act) (olds news : List PortView)
    (engine : Engine) : Type 0 where
  pub acts : List Act
  pub taken : Pairs
  pub fed : ℕ → List Value
  pub is_core : core_of engine ≡ core
  pub is_span : room_of engine ≡ span_of traced
  pub parts : IsStateOf core (state_of engine)
  pub made : Made acts taken olds news
  pub told : EndsAreTold core (queue_at engine) taken olds
  pub after : IsAfter core (span_of traced) steps done (queue_at engine) (state_of engine) taken fed
  pub peaks : ArePeaks core (queue_at engine) engine taken (after_rounds (span_of traced) steps done)
  pub are : (inputs : Inputs) → MayCome core (queue_at engine) taken inputs → acts ≡ acts_of inputs.good

-- All acts of the first rounds were made.
abbrev pub StandsAfter : Core → Bool → ℕ → ℕ → List PortView → List PortView → Engine → Type 0
StandsAfter core traced steps done olds news engine = Stands core traced steps done (λ good. rounds_acts core good traced steps done) olds news engine

-- the acts of the first rounds, and the reads of the first nodes before the next round
abbrev pub filling_acts : Core → Bool → ℕ → ℕ → ℕ → List (List Value) → List Act
filling_acts core traced steps done count good = rounds_acts core good traced steps done ++ round_wants core good (span_of traced) steps (suc done) count

-- Before the next round the input streams among the first nodes were read, and have brought what it may need.
pub record StandsFilling (core : Core) (traced : Bool) (steps done count want : ℕ) (olds news : List PortView) (engine : Engine) : Type 0 where
  pub is : IsRound (span_of traced) steps (suc done)
  pub wanted : want ≡ length_of (span_of traced) steps (suc done)
  pub stands : Stands core traced steps done (filling_acts core traced steps done count) olds news engine
  pub begun : (n : ℕ) (stream : StreamC) → n < count → slice_get core.nodes n ≡ Some (From stream) → MayBegin core (queue_at engine) want (state_of engine) n

-- The node is an input stream that lacks values for so many supersteps, and its next line, of that number, is bad.
pub record LacksAt (core : Core) (want : ℕ) (engine : Engine) (n line : ℕ) : Type 0 where
  pub stream : StreamC
  pub is : slice_get core.nodes n ≡ Some (From stream)
  pub few : length (coming_at engine n) < want
  pub before : StandsBeforeBad core (queue_at engine) (state_of engine) n (λ number. line ≡ min number last_count)

-- The next round may not begin: a stream lacks values, and no earlier one does.
pub record StandsBlocked (core : Core) (traced : Bool) (steps done want : ℕ) (olds news : List PortView) (engine : Engine) (bad : BadLine) : Type 0 where
  pub is : IsRound (span_of traced) steps (suc done)
  pub wanted : want ≡ length_of (span_of traced) steps (suc done)
  pub stands : Stands core traced steps done (filling_acts core traced steps done (bad.node + 1)) olds news engine
  pub begun : (n : ℕ) (stream : StreamC) → n < bad.node → slice_get core.nodes n ≡ Some (From stream) → MayBegin core (queue_at engine) want (state_of engine) n
  pub lacks : LacksAt core want engine bad.node bad.line

abbrev pub EndsNode : Core → Bool → ℕ → ℕ → ℕ → ℕ → List PortView → List PortView → Engine → Result (Option ℕ) Failed → Type 0
EndsNode core traced steps done node want olds news engine (Ok None) = StandsFilling core traced steps done (node + 1) want olds news engine
EndsNode core traced steps done node want olds news engine (Ok (Some line)) =
    StandsBlocked core traced steps done want olds news engine (record { node = node; line = line })
EndsNode core traced steps done node want olds news engine (Err failed) = FailsInRounds core traced steps olds news

abbrev pub EndsFills : Core → Bool → ℕ → ℕ → ℕ → List PortView → List PortView → Engine → Result (Option BadLine) Failed → Type 0
EndsFills core traced steps done want olds news engine (Ok None) = StandsFilling core traced steps done (length core.nodes) want olds news engine
EndsFills core traced steps done want olds news engine (Ok (Some bad)) = StandsBlocked core traced steps done want olds news engine bad
EndsFills core traced steps done want olds news engine (Err failed) = FailsInRounds core traced steps olds news

-- The run stands before a round that a stream blocks.
pub record HaltsBefore (core : Core) (traced : Bool) (steps : ℕ) (olds news : List PortView) (engine : Engine) (bad : BadLine) : Type 0 where
  pub done : ℕ
  pub want : ℕ
  pub blocked : StandsBlocked core traced steps done want olds news engine bad

abbrev pub EndsRound : Core → Bool → ℕ → ℕ → List PortView → List PortView → Engine → Result (Option BadLine) Failed → Type 0
EndsRound core traced steps done olds news engine (Ok None) = StandsAfter core traced steps (suc done) olds news engine
EndsRound core traced steps done olds news engine (Ok (Some bad)) = HaltsBefore core traced steps olds news engine bad
EndsRound core traced steps done olds news engine (Err failed) = FailsInRounds core traced steps olds news

abbrev pub EndsRounds : Core → Bool → ℕ → List PortView → List PortView → Engine → Result (Option BadLine) Failed → Type 0
EndsRounds core traced steps olds news engine (Ok None) = StandsAfter core traced steps (rounds_of (span_of traced) steps) olds news engine
EndsRounds core traced steps olds news engine (Ok (Some bad)) = HaltsBefore core traced steps olds news engine bad
EndsRounds core traced steps olds news engine (Err failed) = FailsInRounds core traced steps olds news
