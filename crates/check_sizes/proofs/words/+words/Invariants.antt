use Rattle.std.proofs.Common.{◌≡◌, ◌+◌, ◌≤◌, drop}
use Rattle.hume_base.specs.declared.limits.TheConstants.{MAX_WIRE_WORDS}
use Rattle.hume_base.specs.Sizes.{sizes_with}
use Rattle.check_sizes.specs.inner.Capped.{capped, named_in, words_by}
use Rattle.check_sizes.proofs.words.+words.Given as goal

abbrev pub decreases-words : goal.decreases-words
decreases-words l = goal.size-words l

abbrev pub invariant-loop-part : goal.invariant-loop-part
invariant-loop-part l = record {
  small : l.total ≤ MAX_WIRE_WORDS + 1;
  all : capped (l.total + sizes_with (named_in l.sizes) (drop l.part-index l.part-items)) ≡ words_by l.sizes l.ty;
}
