use Rattle.std.proofs.Common.{◌≡◌, ◌+◌, ◌≤◌, drop}
use Rattle.hume_base.specs.declared.limits.TheConstants.{MAX_WIRE_WORDS}
use Rattle.hume_base.specs.Sizes.{sizes_with}
use Rattle.check_sizes.specs.inner.Capped.{capped, named_in}
use Rattle.check_sizes.proofs.data_sizes.fields_words.Given as goal

abbrev pub invariant-loop-field : goal.invariant-loop-field
invariant-loop-field l = record {
  small : l.total ≤ MAX_WIRE_WORDS + 1;
  all : capped (l.total + sizes_with (named_in l.sizes) (drop l.field-index l.fields)) ≡ capped (sizes_with (named_in l.sizes) l.fields);
}
