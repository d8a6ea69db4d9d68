use Rattle.std.proofs.Common.{◌≡◌, ◌≤◌, drop}
use Rattle.check_tables.specs.names.Names.{with_names}
use Rattle.check_scopes.specs.signatures.inner.Tables.{numbered_from}
use Rattle.check_rules.specs.Declared.{data_of, in_order}
use Rattle.check_signatures.specs.inner.Named.{data_type_name, numbers_in}
use Rattle.check_signatures.proofs.names.data_type_numbers.Given as goal

abbrev pub invariant-loop-number : goal.invariant-loop-number
invariant-loop-number l = record {
  few : l.count ≤ l.number-index;
  names : with_names l.names (numbered_from data_type_name l.count (in_order data_of (drop l.number-index l.order) l.decls)) ≡ numbers_in l.decls l.order;
}
