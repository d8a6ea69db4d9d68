use Rattle.std.proofs.Common.{◌≡◌, [], drop}
use Rattle.c_main.specs.Found.{with_data}
use Rattle.c_main.specs.inner.Places.{is_marked}
use Rattle.c_main.proofs.gathered.needed_types.Given as goal

abbrev pub invariant-loop-number : goal.invariant-loop-number
invariant-loop-number l = with_data (is_marked l.marks) l.found l.number (drop l.number l.sums) ≡ with_data (is_marked l.marks) [] 0 l.sums
