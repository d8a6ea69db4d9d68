use Rattle.std.proofs.Common.{◌≡◌}
use Rattle.turn_locker.specs.Seats.{view_of}
use Rattle.turn_workers.specs.inner.Rounds.{IsIdle}
use Rattle.turn_workers.proofs.scans.run_own.Given as goal

abbrev pub invariant-loop-group : goal.invariant-loop-group
invariant-loop-group g l = record {
  seat : IsIdle l.locker l.seat;
  share : (view_of l.seat).share ≡ (view_of l.fn.seat).share;
}
