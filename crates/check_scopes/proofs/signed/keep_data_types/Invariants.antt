use Rattle.std.proofs.Common.{◌≡◌, ◌++◌, drop}
use Rattle.check_scopes.specs.inner.Kept.{constructor_types}
use Rattle.check_scopes.proofs.signed.keep_data_types.Given as goal

abbrev pub invariant-loop-data_type : goal.invariant-loop-data_type
invariant-loop-data_type l = (l.context.0 ≡ l.fn.context.0) × (l.context.1 ≡ l.fn.context.1)
    × (l.context.2 ++ constructor_types (drop l.data_type-index l.data_types) ≡ l.fn.context.2 ++ constructor_types l.data_types)
