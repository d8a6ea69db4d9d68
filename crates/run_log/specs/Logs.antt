-- The log of a run: what is on each wire at the start, and at each half of each superstep.
use Rattle.std.specs.Prelude.{ℕ, ◌-◌, List, [], ◌∷◌, ◌++◌, codes}
use Rattle.std.specs.List.{concat, flat_map, range_with_len}
use Rattle.hume_base.specs.declared.types.Value.{Value}
use Rattle.hume_model.specs.declared.core_tree.Core.{Core}
use Rattle.hume_net.specs.declared.state.State.{State}
use Rattle.hume_net.specs.Lockstep.{lockstep, mid}
use Rattle.hume_net.specs.Sides.{on_wire}
use Rattle.hume_net.specs.Start.{start}
use Rattle.trace_print.specs.SpaceLines.{counted}
use Rattle.trace_print.specs.TraceLines.{wire_lines}
use Rattle.run_log.specs.declared.half.Half.{Half}
use Rattle.run_log.specs.declared.half.Half.TheVariants.{Mid, End}

-- mid SUPERSTEP or end SUPERSTEP
abbrev pub heading : Half → ℕ → List ℕ
heading Mid superstep = counted (codes "mid ") superstep ++ 10 ∷ []
heading End superstep = counted (codes "end ") superstep ++ 10 ∷ []

-- a block: a heading, and a line for each wire, in source order, with what is on it
abbrev pub block : Core → Half → ℕ → State → List (List ℕ)
block core half superstep state = heading half superstep ∷ wire_lines core (on_wire state)

-- a superstep, counted from 1: its midst, when all nodes have made their execute steps and none its super step, and then its end
abbrev pub superstep_blocks : Core → State → ℕ → List (List ℕ)
superstep_blocks core first superstep =
    block core Mid superstep (mid core (lockstep core first (superstep - 1))) ++ block core End superstep (lockstep core first superstep)

-- the start, and then each superstep
abbrev pub log_lines : Core → State → ℕ → List (List ℕ)
log_lines core first steps = block core End 0 first ++ flat_map (superstep_blocks core first) (range_with_len 1 steps)

-- the log of a run to whose nodes these values come
abbrev pub log_of : Core → List (List Value) → ℕ → List ℕ
log_of core inputs steps = concat (log_lines core (start core inputs) steps)
