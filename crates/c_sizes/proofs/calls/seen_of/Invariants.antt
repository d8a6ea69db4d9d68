use Rattle.std.proofs.Common.{◌≡◌, drop}
use Rattle.std.specs.Prelude.{fold}
use Rattle.c_sizes.specs.Calls.{seen_of, with_item}
use Rattle.c_sizes.proofs.calls.seen_of.Given as goal

abbrev pub invariant-loop-item : goal.invariant-loop-item
invariant-loop-item l = fold with_item l.seen (drop l.item-index l.items) ≡ seen_of l.items
