use Rattle.std.proofs.Common.{◌≡◌, ◌<◌}
use Rattle.std.specs.Prelude.{IfSome}
use Rattle.turn_locker.specs.Seats.{view_of}
use Rattle.turn_workers.specs.inner.Rounds.{IsIdle}
use Rattle.turn_workers.proofs.scans.furthest_behind.Given as goal

abbrev pub invariant-loop-group : goal.invariant-loop-group
invariant-loop-group g l = record {
  group : IfSome l.behind.group (λ group. group < g.O.Opens.grouping.count);
  seat : IsIdle l.locker l.seat;
  share : (view_of l.seat).share ≡ (view_of l.fn.seat).share;
}
