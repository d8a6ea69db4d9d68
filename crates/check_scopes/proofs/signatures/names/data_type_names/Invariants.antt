use Rattle.std.proofs.Common.{◌≡◌, drop}
use Rattle.hume_base.specs.declared.types.SumDef.{SumDef}
use Rattle.check_tables.specs.names.Names.{with_names}
use Rattle.check_scopes.specs.signatures.inner.Tables.{numbered_from, table_of}
use Rattle.check_scopes.proofs.signatures.names.data_type_names.Given as goal

abbrev pub invariant-loop-number : goal.invariant-loop-number
invariant-loop-number l =
    with_names l.table (numbered_from (λ (one : SumDef). one.name) l.number (drop l.number l.data_types)) ≡ table_of (λ (one : SumDef). one.name) l.data_types
