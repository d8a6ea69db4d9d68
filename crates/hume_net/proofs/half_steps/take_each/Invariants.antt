use Rattle.std.proofs.Common.{◌≡◌, ◌++◌, map}
use Rattle.hume_net.specs.HalfSteps.{oldest, without_oldest, values_there}
use Rattle.hume_net.proofs.half_steps.take_each.Given as goal

abbrev pub invariant-loop-wire : goal.invariant-loop-wire
invariant-loop-wire l = record {
  taken : l.taken ≡ l.initial.taken ++ values_there (map oldest l.yielded);
  side : l.side ≡ map without_oldest l.yielded;
}
