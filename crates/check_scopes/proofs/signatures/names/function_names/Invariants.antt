use Rattle.std.proofs.Common.{◌≡◌, drop}
use Rattle.check_typing.specs.declared.signatures.Signature.{Signature}
use Rattle.check_tables.specs.names.Names.{with_names}
use Rattle.check_scopes.specs.signatures.inner.Tables.{numbered_from, table_of}
use Rattle.check_scopes.proofs.signatures.names.function_names.Given as goal

abbrev pub invariant-loop-number : goal.invariant-loop-number
invariant-loop-number l =
    with_names l.table (numbered_from (λ (function : Signature). function.name) l.number (drop l.number l.functions)) ≡ table_of (λ (function : Signature). function.name) l.functions
