use Rattle.std.proofs.Common.{◌≤◌, ◌-◌, max, replicate}
use Rattle.box_machine.specs.inner.Written.{IsWritten}
use Rattle.box_machine.proofs.standing.write_zeros.Given as goal

abbrev pub invariant-loop-place : goal.invariant-loop-place
invariant-loop-place l = record {
  within : l.place ≤ max l.from l.to;
  written : IsWritten l.initial.into l.from (replicate (l.place - l.from) 0) l.into l.place;
}
