use Rattle.std.proofs.Common.{◌≡◌, drop}
use Rattle.check_sizes.specs.inner.Capped.{with_sizes, sizes_of}
use Rattle.check_sizes.proofs.data_sizes.data_sizes.Given as goal

abbrev pub invariant-loop-data_type : goal.invariant-loop-data_type
invariant-loop-data_type l = with_sizes l.sizes (drop l.data_type-index l.sums) ≡ sizes_of l.sums
