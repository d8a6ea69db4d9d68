use Rattle.std.proofs.Common.{◌≡◌, map, drop, length}
use Rattle.check_tables.specs.names.Names.{with_names}
use Rattle.check_counts.proofs.counts.add_constructors.Given as goal

abbrev pub invariant-loop-con : goal.invariant-loop-con
invariant-loop-con l =
    with_names l.table (map (λ con. (con.0, length con.1)) (drop l.con-index l.cons)) ≡ with_names l.fn.table (map (λ con. (con.0, length con.1)) l.cons)
