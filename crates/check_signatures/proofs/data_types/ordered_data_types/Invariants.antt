use Rattle.std.proofs.Common.{◌≡◌, map, drop, slice_get}
use Rattle.hume_base.specs.Sizes.{HaveTheirSizes}
use Rattle.check_typing.specs.Partial.{given}
use Rattle.check_rules.specs.Declared.{data_of}
use Rattle.check_signatures.specs.inner.Named.{data_type_by, data_types_in, without_size}
use Rattle.check_signatures.proofs.Gathered.{with_rest}
use Rattle.check_signatures.proofs.data_types.ordered_data_types.Given as goal

abbrev pub invariant-loop-number : goal.invariant-loop-number
invariant-loop-number l = record {
  are : with_rest (λ n. given (slice_get l.decls n) data_of) (data_type_by l.names) (drop l.number-index l.order) (map without_size l.types.sums)
      ≡ data_types_in l.names l.decls l.order;
  sizes : HaveTheirSizes l.types;
}
