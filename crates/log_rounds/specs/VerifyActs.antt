-- The acts of a run by which a log is verified: before each superstep its input streams are read, and then the log block by block, up
-- to the first block that differs; then one line is told.
use Rattle.std.specs.Prelude.{◌≡◌, ◌<◌, ℕ, suc, ◌-◌, true, List, [], ◌∷◌, ◌++◌, length, Option, None, Some, slice_get, codes, decimal}
use Rattle.std.specs.List.{concat, flat_map, range_with_len}
use Rattle.std.specs.Option.{unwrap_or}
use Rattle.std.specs.Str.{bytes_eq}
use Rattle.hume_base.specs.declared.types.Value.{Value}
use Rattle.hume_model.specs.declared.core_tree.NodeC.{NodeC}
use Rattle.hume_model.specs.declared.core_tree.NodeC.TheVariants.{Rules, From, To}
use Rattle.hume_model.specs.declared.core_tree.Core.{Core}
use Rattle.hume_net.specs.Start.{start}
use Rattle.port_acts.specs.Acts.{Act, wants, writes}
use Rattle.port_acts.specs.Ends.{Few}
use Rattle.run_log.specs.declared.fault.LogFault.{LogFault}
use Rattle.run_log.specs.declared.half.Half.{Half}
use Rattle.run_log.specs.declared.half.Half.TheVariants.{Mid, End}
use Rattle.run_log.specs.Logs.{log_of}
use Rattle.run_rounds.specs.Inputs.{Inputs}
use Rattle.run_rounds.specs.RunActs.{blocked_wants, reading, run_few}
use Rattle.run_rounds.specs.Streams.{std_out}
use Rattle.run_rounds.specs.Writes.{bad_value_line, name_of}
use Rattle.log_rounds.specs.Outcomes.{Outcome, holds, fails, goes_on, blocked, lines_through, surplus}

-- the log is read through the block of a half of a superstep
abbrev pub compared : Core → List (List Value) → List ℕ → Half → ℕ → Act
compared core good log half superstep = wants log (length (concat (lines_through core (start core good) half superstep)))

-- a superstep that agrees: streams are read, and then the log through each of its two blocks
abbrev pub agreeing : Core → List (List Value) → List ℕ → ℕ → ℕ → List Act
agreeing core good log steps superstep =
    reading core good true steps superstep ++ compared core good log Mid superstep ∷ compared core good log End superstep ∷ []

-- the start and the first supersteps
abbrev pub agreeing_acts : Core → List (List Value) → List ℕ → ℕ → ℕ → List Act
agreeing_acts core good log steps count =
    compared core good log End 0 ∷ flat_map (agreeing core good log steps) (range_with_len 1 count)

-- all that is read until the block of a half of a superstep has been compared
abbrev pub acts_through : Core → List (List Value) → List ℕ → ℕ → Half → ℕ → List Act
acts_through core good log steps Mid superstep =
    agreeing_acts core good log steps (superstep - 1) ++ reading core good true steps superstep ++ compared core good log Mid superstep ∷ []
acts_through core good log steps End superstep = agreeing_acts core good log steps superstep

-- all that is read until one byte more was asked for
abbrev pub acts_to_end : Core → List (List Value) → List ℕ → ℕ → List Act
acts_to_end core good log steps =
    agreeing_acts core good log steps steps ++ wants log (suc (length (log_of core good steps))) ∷ []

-- the name of a node, be it a box or a stream
abbrev pub node_name : Option NodeC → List ℕ
node_name None = []
node_name (Some (Rules b)) = b.name
node_name (Some (From stream)) = stream.name
node_name (Some (To stream)) = stream.name

-- the node that is blamed, if there is one: box NAME
abbrev pub blame : Core → Option ℕ → List ℕ
blame core None = []
blame core (Some node) = codes " box " ++ node_name (slice_get core.nodes node)

-- log fails line LINE, and possibly box NAME
abbrev pub fault_line : Core → LogFault → List ℕ
fault_line core fault = codes "log fails line " ++ decimal fault.line ++ blame core fault.node ++ 10 ∷ []

-- log holds
abbrev pub holds_line : List ℕ
holds_line = codes "log holds\n"

-- What is read, by what comes of the log.
abbrev pub verify_reads : Core → Inputs → List ℕ → ℕ → Outcome → List Act
verify_reads core inputs log steps holds = acts_to_end core inputs.good log steps
verify_reads core inputs log steps (fails half superstep fault) = acts_through core inputs.good log steps half superstep
verify_reads core inputs log steps goes_on = acts_to_end core inputs.good log steps
verify_reads core inputs log steps (blocked superstep node) =
    agreeing_acts core inputs.good log steps (superstep - 1) ++ blocked_wants core inputs true steps superstep (Some node)

-- the line that is told
abbrev pub outcome_line : Core → Inputs → ℕ → Outcome → List ℕ
outcome_line core inputs steps holds = holds_line
outcome_line core inputs steps (fails half superstep fault) = fault_line core fault
outcome_line core inputs steps goes_on = fault_line core (surplus core steps)
outcome_line core inputs steps (blocked superstep node) = bad_value_line (name_of (slice_get core.nodes node)) (unwrap_or (inputs.bad node) 0)

-- All is read, and then the line is told.
abbrev pub verify_acts : Core → Inputs → List ℕ → ℕ → Outcome → List Act
verify_acts core inputs log steps outcome = verify_reads core inputs log steps outcome ++ writes std_out (outcome_line core inputs steps outcome) ∷ []

-- Of the log the values are bytes, and of an input stream those of its whole lines.
pub record VerifyFew (core : Core) (log name : List ℕ) (count : ℕ) (bytes : List ℕ) : Type 0 where
  pub of_log : bytes_eq name log ≡ true → length bytes < count
  pub of_streams : run_few core name count bytes

abbrev pub verify_few : Core → List ℕ → Few
verify_few core log name count bytes = VerifyFew core log name count bytes
