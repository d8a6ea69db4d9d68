use Rattle.std.proofs.Common.{◌≤◌, ◌-◌, length, map, take}
use Rattle.hume_ports.proofs.Filling.{HasRead}
use Rattle.hume_ports.proofs.list.fill_at.Given as goal

abbrev pub invariant-loop-filled : goal.invariant-loop-filled
invariant-loop-filled g l = record {
  within : l.filled ≤ length l.buf;
  read : HasRead
      (map (λ b. (goal.Port-dyn g (b.vtable, b.value)).view b.value) l.initial.ports)
      (map (λ b. (goal.Port-dyn g (b.vtable, b.value)).view b.value) l.ports)
      l.at (take l.filled l.buf);
}

abbrev pub decreases-loop-filled : goal.decreases-loop-filled
decreases-loop-filled g l = length l.initial.buf - l.filled
