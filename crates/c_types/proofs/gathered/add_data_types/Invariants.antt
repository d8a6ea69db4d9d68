use Rattle.std.proofs.Common.{◌≡◌, drop}
use Rattle.c_types.specs.Gathered.{with_data_types}
use Rattle.c_types.proofs.gathered.add_data_types.Given as goal

abbrev pub invariant-loop-number : goal.invariant-loop-number
invariant-loop-number l = with_data_types l.tys l.number (drop l.number l.sums) ≡ with_data_types l.initial.tys 0 l.sums
