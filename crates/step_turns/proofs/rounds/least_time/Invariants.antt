use Rattle.std.proofs.Common.{ℕ, ◌<◌, ◌≤◌}
use Rattle.step_turns.specs.Rounds.{node_time}
use Rattle.step_turns.proofs.rounds.least_time.Given as goal

abbrev pub invariant-loop-n : goal.invariant-loop-n
invariant-loop-n l = record {
  least : (k : ℕ) → k < l.n → l.least ≤ node_time l.nodes k;
  until : l.least ≤ l.end;
}
