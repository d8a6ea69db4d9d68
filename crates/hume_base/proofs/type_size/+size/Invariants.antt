use Rattle.std.proofs.Common.{◌≡◌, ◌+◌, ◌≤◌, drop, length}
use Rattle.hume_base.specs.declared.limits.TheConstants.{MAX_TYPE_WORDS}
use Rattle.hume_base.specs.Sizes.{size_of, sizes_with, named_size, written_size}
use Rattle.hume_base.proofs.type_size.+size.Given as goal

abbrev pub decreases-size : goal.decreases-size
decreases-size l = goal.size-size l

abbrev pub invariant-loop-part : goal.invariant-loop-part
invariant-loop-part l = record {
  small : l.total ≤ MAX_TYPE_WORDS + 1;
  all : written_size (l.total + sizes_with (named_size l.types (length l.types.sums)) (drop l.part-index l.part-items)) ≡ written_size (size_of l.types l.ty);
}
