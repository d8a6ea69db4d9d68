use Rattle.std.proofs.Common.{◌≡◌}
use Rattle.std.specs.List.{flat_map, range_with_len}
use Rattle.c_arithmetic.specs.Helpers.{helpers_at}
use Rattle.c_arithmetic.proofs.functions.helpers_up_to.Given as goal

abbrev pub invariant-loop-below : goal.invariant-loop-below
invariant-loop-below l = l.items ≡ flat_map (helpers_at l.names) (range_with_len 1 l.below)
