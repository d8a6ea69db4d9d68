use Rattle.std.proofs.Common.{◌≡◌, ◌-◌, ℕ, length, Some, slice_get, vec_capacity}
use Rattle.turn_workers.specs.declared.cells.Group.{Group}
use Rattle.turn_workers.specs.Members.{members_from, numbers_of}
use Rattle.turn_workers.specs.inner.Gathered.{AreScattered, IsFrontOf}
use Rattle.turn_workers.proofs.gathering.scatter.Given as goal

abbrev pub invariant-loop-n : goal.invariant-loop-n
invariant-loop-n l = record {
  nodes : AreScattered l.shape l.fn.groups.items l.n l.nodes.items;
  capacity : vec_capacity l.nodes ≡ vec_capacity l.fn.nodes;
  left : (i : ℕ) (group : Group) → slice_get l.groups.items i ≡ Some group → numbers_of group.members.items ≡ members_from l.shape i l.n (l.count - l.n);
  fronts : (i : ℕ) (group : Group) → slice_get l.groups.items i ≡ Some group
      → (was : Group) × (slice_get l.fn.groups.items i ≡ Some was) × IsFrontOf group was;
  many : length l.groups.items ≡ length l.fn.groups.items;
}
