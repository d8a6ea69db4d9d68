use Rattle.std.proofs.Common.{◌≤◌}
use Rattle.phase_workers.proofs.policy.add_offers.Given as goal

abbrev pub invariant-halving : goal.invariant-halving
invariant-halving l = l.workers ≤ l.most

abbrev pub decreases-halving : goal.decreases-halving
decreases-halving l = l.workers
