use Rattle.std.proofs.Common.{◌≡◌, ◌+◌, ◌≤◌, Some, drop, option_map}
use Rattle.hume_base.specs.declared.limits.TheConstants.{MAX_WIRE_WORDS}
use Rattle.hume_base.specs.declared.types.Ty.{Tuple}
use Rattle.check_typing.specs.Partial.{given}
use Rattle.check_typing.specs.WrittenTypes.{all_written}
use Rattle.check_sizes.specs.inner.Capped.{words_by}
use Rattle.check_sizes.specs.inner.Large.{rest_words}
use Rattle.check_sizes.proofs.written_words.+written_words.Given as goal

abbrev pub invariant-tuple_words-loop-part : goal.invariant-tuple_words-loop-part
invariant-tuple_words-loop-part l = record {
  small : l.total ≤ MAX_WIRE_WORDS + 1;
  all : rest_words l.sizes l.total (all_written l.table.types (drop l.part-index l.parts))
      ≡ option_map (words_by l.sizes) (given (all_written l.table.types l.parts) (λ tys. Some (Tuple tys)));
}
