use Rattle.std.proofs.Common.{◌≡◌, drop}
use Rattle.hume_model.specs.declared.core_tree.ExnDef.{ExnDef}
use Rattle.check_tables.specs.names.Names.{with_names}
use Rattle.check_scopes.specs.signatures.inner.Tables.{numbered_from, table_of}
use Rattle.check_scopes.proofs.signatures.names.exception_names.Given as goal

abbrev pub invariant-loop-number : goal.invariant-loop-number
invariant-loop-number l =
    with_names l.table (numbered_from (λ (exn : ExnDef). exn.name) l.number (drop l.number l.exceptions)) ≡ table_of (λ (exn : ExnDef). exn.name) l.exceptions
