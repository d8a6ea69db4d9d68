use Rattle.demo_rounds.proofs.NodeTotals.{Counting}
use Rattle.demo_rounds.proofs.counting.count_outputs.Given as goal

abbrev pub invariant-loop-node : goal.invariant-loop-node
invariant-loop-node l = Counting l.initial.engine l.engine l.initial.totals l.totals l.node
