use Rattle.std.proofs.Common.{◌≡◌, ◌++◌, drop, length, map}
use Rattle.check_tables.specs.names.Names.{with_names}
use Rattle.check_scopes.specs.signatures.Numbered.{seen}
use Rattle.check_scopes.specs.signatures.inner.Tables.{numbered_from, table_of, name_of_constructor, all_constructors, those_of_all}
use Rattle.check_scopes.proofs.signatures.constructors.add_data_types.Given as goal

abbrev pub invariant-loop-number : goal.invariant-loop-number
invariant-loop-number l =
    let left = drop l.number l.data_types in
    record {
      names : with_names l.table.names (numbered_from name_of_constructor (length l.table.all.items) (all_constructors left))
          ≡ table_of name_of_constructor (all_constructors l.data_types);
      all : map seen l.table.all.items ++ those_of_all l.number (length l.table.all.items) left ≡ those_of_all 0 0 l.data_types;
    }
