use Rattle.std.proofs.Common.{◌≡◌, ◌++◌, ◌||◌, drop, take}
use Rattle.check_names.specs.Names.{repeats}
use Rattle.check_tables.specs.names.Names.{names_of}
use Rattle.check_names.specs.inner.Spaces.{SameNames}
use Rattle.check_names.proofs.adding.add_all.Given as goal

abbrev pub invariant-loop-at : goal.invariant-loop-at
invariant-loop-at l = record {
  again : (l.again || repeats (names_of l.table) (drop l.at l.names)) ≡ repeats (names_of l.fn.table) l.names;
  added : SameNames (names_of l.table) (names_of l.fn.table ++ take l.at l.names);
}
