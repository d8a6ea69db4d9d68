-- What a failed read tells of the round before which it came.
use Rattle.std.specs.Prelude.{◌≡◌, ◌<◌, ℕ, Bool, true, List, length, Option, Some, slice_get}
use Rattle.hume_base.specs.declared.types.Value.{Value}
use Rattle.hume_model.specs.declared.core_tree.Core.{Core}
use Rattle.hume_model.specs.declared.core_tree.NodeC.TheVariants.{From}
use Rattle.hume_model.specs.declared.core_tree.StreamC.{StreamC}
use Rattle.hume_net.specs.rounds.Rounds.{IsRound}
use Rattle.hume_ports.specs.Delivery.{Delivered, Drawn, Pairs, bytes_for}
use Rattle.hume_ports.specs.Port.{PortView}
use Rattle.hume_ports.specs.Ports.{is_among}
use Rattle.hume_streams.specs.Good.{IsGoodUntil}
use Rattle.hume_streams.specs.Lines.{whole_lines}
use Rattle.port_acts.specs.Early.{names_read}
use Rattle.port_acts.specs.Ends.{NoneRose}
use Rattle.phase_workers.specs.StreamTypes.{type_at}
use Rattle.run_rounds.specs.Inputs.{Inputs}
use Rattle.run_rounds.specs.RunActs.{needed}
use Rattle.run_rounds.specs.Writes.{span_of}
use Rattle.hume_calls.specs.declared.order.Order.{Order}
use Rattle.hume_calls.specs.Faults.{ReadRose}
use Rattle.hume_calls.specs.Reading.{early_reads}
use Rattle.hume_calls.specs.Words.{Named}

-- Only read counts have risen, and none of a port that the call reads whole.
pub record OnlyInputsFailed (order : Order) (named : Named) (old new : List PortView) : Type 0 where
  pub no_write : NoneRose (λ port. port.write_faults) old new
  pub no_finish : NoneRose (λ port. port.finish_faults) old new
  pub none_whole : (name : List ℕ) → is_among name (names_read (early_reads order named)) ≡ true → ReadRose name old new → ⊥

-- A read of an input stream's port failed before a round of the run. Just what stands before that round was written, and the whole
-- lines taken from the port have fewer good values than the stream has asserted and may need in the round.
pub record FailedStream (core : Core) (coming : Inputs) (traced : Bool) (steps : ℕ) (stands_before : ℕ → Pairs) (old new : List PortView) : Type 0 where
  pub round : ℕ
  pub is_round : IsRound (span_of traced) steps round
  pub delivered : Delivered old new (stands_before round)
  pub node : ℕ
  pub stream : StreamC
  pub at : slice_get core.nodes node ≡ Some (From stream)
  pub rose : ReadRose stream.port old new
  pub taken : Pairs
  pub drawn : Drawn old new taken
  pub few : (good : List Value) (bad : Option ℕ) → IsGoodUntil core.types (type_at core node) (whole_lines (bytes_for stream.port taken)) good bad
      → length good < needed core coming.good (span_of traced) steps round node
