use Rattle.std.proofs.Common.{◌≡◌, ◌≤◌, [], drop, if◌then◌else◌}
use Rattle.turn_locker.specs.Seats.{IsSeatOf, view_of}
use Rattle.turn_workers.specs.inner.Halves.{IsHeld}
use Rattle.turn_workers.specs.inner.Stacks.{pairs_of, stack}
use Rattle.turn_workers.proofs.turns.let_go_side.Given as goal

abbrev pub invariant-letting : goal.invariant-letting
invariant-letting g l = record {
  few : l.left ≤ l.held;
  own : IsSeatOf l.locker l.seat;
  held : (view_of l.seat).held ≡ stack g.O.Opens.grouping.count l.fn.group.number l.time l.side l.left;
  passed : (view_of l.seat).passed ≡ (if l.made then pairs_of l.fn.group.number (drop l.left l.side) else []);
  share : (view_of l.seat).share ≡ (view_of l.fn.seat).share;
  group : IsHeld g.O.Opens.opened g.O.Opens.plan g.O.Opens.grouping g.O.Opens.steps l.side l.left l.group.number l.group.time l.group.members.items l.group.home.items;
  number : l.group.number ≡ l.fn.group.number;
  later : l.group.time ≡ l.fn.group.time;
}

abbrev pub decreases-letting : goal.decreases-letting
decreases-letting g l = l.left
