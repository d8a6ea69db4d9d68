use Rattle.std.proofs.Common.{◌≡◌, take}
use Rattle.hume_base.proofs.copy.+copy_value.Given as goal

abbrev pub invariant-copy_values-loop-value : goal.invariant-copy_values-loop-value
invariant-copy_values-loop-value l = l.copies ≡ take l.value-index l.values
