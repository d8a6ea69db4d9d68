use Rattle.std.proofs.Common.{◌≡◌}
use Rattle.turn_locker.specs.Seats.{IsSeatOf, view_of}
use Rattle.turn_workers.specs.inner.Halves.{IsHeld}
use Rattle.turn_workers.specs.inner.Stacks.{stack}
use Rattle.turn_workers.proofs.turns.claim_side.Given as goal

abbrev pub invariant-loop-place : goal.invariant-loop-place
invariant-loop-place g l = record {
  own : IsSeatOf l.locker l.seat;
  held : (view_of l.seat).held ≡ stack g.O.Opens.grouping.count l.fn.group.number l.fn.group.time l.side l.place;
  passed : (view_of l.seat).passed ≡ (view_of l.fn.seat).passed;
  share : (view_of l.seat).share ≡ (view_of l.fn.seat).share;
  group : IsHeld g.O.Opens.opened g.O.Opens.plan g.O.Opens.grouping g.O.Opens.steps l.side l.place l.group.number l.group.time l.group.members.items l.group.home.items;
  number : l.group.number ≡ l.fn.group.number;
  time : l.group.time ≡ l.fn.group.time;
}
