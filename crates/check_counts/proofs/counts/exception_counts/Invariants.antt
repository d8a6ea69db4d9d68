use Rattle.std.proofs.Common.{◌≡◌, [], drop}
use Rattle.check_tables.specs.names.Names.{with_names}
use Rattle.check_counts.specs.Counted.{all_declared, exceptions_of, own_exceptions}
use Rattle.check_counts.proofs.counts.exception_counts.Given as goal

abbrev pub invariant-loop-decl : goal.invariant-loop-decl
invariant-loop-decl l = with_names l.table (all_declared exceptions_of (drop l.decl-index l.decls)) ≡ with_names (with_names [] own_exceptions) (all_declared exceptions_of l.decls)
