use Rattle.std.proofs.Common.{◌≡◌, reverse, vec_len}
use Rattle.c_used.specs.Kept.{kept}
use Rattle.c_used.specs.inner.Kept.{kept_before}
use Rattle.c_used.proofs.items.used_items.Given as goal

abbrev pub decreases-loop-item : goal.decreases-loop-item
decreases-loop-item l = vec_len l.items

abbrev pub invariant-loop-item : goal.invariant-loop-item
invariant-loop-item l = kept_before l.items.items (reverse l.behind.items.items) ≡ kept l.initial.items.items
