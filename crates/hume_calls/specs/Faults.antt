-- What a fault tells by the counts that rose.
use Rattle.std.specs.Prelude.{◌≡◌, ◌<◌, ◌-◌, ◌++◌, ℕ, Bool, true, List, length, Option, Some, slice_get}
use Rattle.hume_base.specs.declared.types.Value.{Value}
use Rattle.hume_model.specs.declared.core_tree.NodeC.TheVariants.{From}
use Rattle.hume_model.specs.declared.core_tree.StreamC.{StreamC}
use Rattle.hume_model.specs.declared.core_tree.Core.{Core}
use Rattle.hume_net.specs.rounds.Rounds.{IsRound}
use Rattle.hume_streams.specs.Good.{IsGoodUntil}
use Rattle.hume_streams.specs.Lines.{whole_lines}
use Rattle.hume_ports.specs.Port.{PortView, Rose}
use Rattle.hume_ports.specs.Ports.{of_first, is_among}
use Rattle.hume_ports.specs.Delivery.{Pairs, Delivered, Drawn, bytes_for, names_in}
use Rattle.port_acts.specs.Acts.{wanted, written, finished}
use Rattle.port_acts.specs.Ends.{Owed}
use Rattle.hume_calls.specs.declared.status.Status.{Status}
use Rattle.phase_workers.specs.StreamTypes.{type_at}
use Rattle.run_rounds.specs.Inputs.{Inputs}
use Rattle.run_rounds.specs.Writes.{span_of, rounds_writes}
use Rattle.run_rounds.specs.RunActs.{needed}
use Rattle.hume_calls.specs.Owed.{table_writes}

-- That count of the name's port has risen.
abbrev pub CountRose : (PortView → ℕ) → List ℕ → List PortView → List PortView → Type 0
CountRose count name old new = Rose (of_first 0 count name old) (of_first 0 count name new)

-- The read count of the name's port has risen.
abbrev pub ReadRose : List ℕ → List PortView → List PortView → Type 0
ReadRose name old new = CountRose (λ port. port.read_faults) name old new

-- A count of one of the call's ports has risen: the read count of the source's port or of one that the owed acts read, or the
-- write or finish count of one that they write to or finish.
pub data HasFault (source : List ℕ) (owed : Owed Status) (old new : List PortView) : Type 0 where
  of_source : ReadRose source old new → HasFault source owed old new
  of_read : (name : List ℕ) → is_among name (wanted owed.acts) ≡ true → ReadRose name old new → HasFault source owed old new
  of_write : (name : List ℕ) → is_among name (names_in (written owed.acts)) ≡ true → CountRose (λ port. port.write_faults) name old new
      → HasFault source owed old new
  of_finish : (name : List ℕ) → is_among name (finished owed.acts) ≡ true → CountRose (λ port. port.finish_faults) name old new
      → HasFault source owed old new

-- So is one of a port that a call without a source writes to or finishes.
pub data HasFaultAlone (owed : Owed Status) (old new : List PortView) : Type 0 where
  alone_write : (name : List ℕ) → is_among name (names_in (written owed.acts)) ≡ true → CountRose (λ port. port.write_faults) name old new
      → HasFaultAlone owed old new
  alone_finish : (name : List ℕ) → is_among name (finished owed.acts) ≡ true → CountRose (λ port. port.finish_faults) name old new
      → HasFaultAlone owed old new

-- A read of an input stream's port failed before a round of the run. The table and exactly the earlier rounds were written, and
-- the whole lines taken from the port have fewer good values than the stream has asserted and may need in the round.
pub record FailedInput (core : Core) (coming : Inputs) (traced : Bool) (steps : ℕ) (old new : List PortView) : Type 0 where
  pub round : ℕ
  pub is_round : IsRound (span_of traced) steps round
  pub delivered : Delivered old new (table_writes core ++ rounds_writes core coming.good traced steps (round - 1))
  pub node : ℕ
  pub stream : StreamC
  pub at : slice_get core.nodes node ≡ Some (From stream)
  pub rose : ReadRose stream.port old new
  pub taken : Pairs
  pub drawn : Drawn old new taken
  pub few : (good : List Value) (bad : Option ℕ) → IsGoodUntil core.types (type_at core node) (whole_lines (bytes_for stream.port taken)) good bad
      → length good < needed core coming.good (span_of traced) steps round node
