use Rattle.std.proofs.Common.{◌≡◌, [], drop}
use Rattle.check_tables.specs.names.Names.{with_names}
use Rattle.check_counts.specs.Counted.{all_declared, constructors_of}
use Rattle.check_counts.proofs.counts.constructor_counts.Given as goal

abbrev pub invariant-loop-decl : goal.invariant-loop-decl
invariant-loop-decl l = with_names l.table (all_declared constructors_of (drop l.decl-index l.decls)) ≡ with_names [] (all_declared constructors_of l.decls)
