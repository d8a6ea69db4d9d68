use Rattle.std.proofs.Common.{◌≡◌, ◌+◌, ◌≤◌, drop, length}
use Rattle.hume_base.specs.declared.limits.TheConstants.{MAX_TYPE_WORDS}
use Rattle.hume_base.specs.Sizes.{sizes_with, named_size, written_size}
use Rattle.check_signatures.proofs.sizes.fields_words.Given as goal

abbrev pub invariant-loop-field : goal.invariant-loop-field
invariant-loop-field l =
    let words = sizes_with (named_size l.types (length l.types.sums)) in
    record {
      small : l.total ≤ MAX_TYPE_WORDS + 1;
      all : written_size (l.total + words (drop l.field-index l.fields)) ≡ written_size (words l.fields);
    }
