use Rattle.std.proofs.Common.{ℕ, ◌<◌}
use Rattle.check_tables.specs.graph.Cycles.{InCycle}
use Rattle.check_tables.proofs.graph.cycle.first_of_left_out.Given as goal

abbrev pub invariant-loop-a : goal.invariant-loop-a
invariant-loop-a l = (h : ℕ) → h < l.a → InCycle l.graph h → ⊥
