use Rattle.std.proofs.Common.{◌≡◌, ◌≤◌, length, take, vec_len, vec_capacity}
use Rattle.turn_workers.specs.inner.Gathered.{AreGathered}
use Rattle.turn_workers.proofs.gathering.gather.Given as goal

abbrev pub invariant-gathering : goal.invariant-gathering
invariant-gathering l = record {
  left : l.nodes.items ≡ take (vec_len l.nodes) l.fn.nodes.items;
  fewer : vec_len l.nodes ≤ vec_len l.fn.nodes;
  capacity : vec_capacity l.nodes ≡ vec_capacity l.fn.nodes;
  groups_capacity : vec_capacity l.groups ≡ vec_capacity l.fn.groups;
  groups : AreGathered l.shape (vec_len l.fn.nodes) l.wires (vec_len l.nodes) l.fn.nodes.items l.groups.items;
  count : length l.groups.items ≡ length l.fn.groups.items;
}

abbrev pub decreases-gathering : goal.decreases-gathering
decreases-gathering l = vec_len l.nodes
