use Rattle.std.proofs.Common.{◌≡◌, ◌+◌, ◌++◌, drop, length, map}
use Rattle.check_tables.specs.names.Names.{with_names}
use Rattle.check_scopes.specs.signatures.Numbered.{seen}
use Rattle.check_scopes.specs.signatures.inner.Tables.{numbered_from, name_of_constructor, those_of_one}
use Rattle.check_scopes.proofs.signatures.constructors.add_constructors.Given as goal

abbrev pub invariant-loop-place : goal.invariant-loop-place
invariant-loop-place l =
    let before = l.fn.table.all.items in
    let left = drop l.place l.constructors in
    record {
      names : with_names l.table.names (numbered_from name_of_constructor (length l.table.all.items) left)
          ≡ with_names l.fn.table.names (numbered_from name_of_constructor (length before) l.constructors);
      all : map seen l.table.all.items ++ those_of_one l.data_type l.place (length l.table.all.items) left
          ≡ map seen before ++ those_of_one l.data_type 0 (length before) l.constructors;
      count : length l.table.all.items ≡ length before + l.place;
    }
