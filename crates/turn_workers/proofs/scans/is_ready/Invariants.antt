use Rattle.std.proofs.Common.{◌≡◌}
use Rattle.turn_locker.specs.Seats.{view_of}
use Rattle.turn_workers.specs.inner.Rounds.{IsIdle}
use Rattle.turn_workers.proofs.scans.is_ready.Given as goal

abbrev pub invariant-loop-k : goal.invariant-loop-k
invariant-loop-k g l = record {
  seat : IsIdle l.locker l.seat;
  share : (view_of l.seat).share ≡ (view_of l.fn.seat).share;
}
