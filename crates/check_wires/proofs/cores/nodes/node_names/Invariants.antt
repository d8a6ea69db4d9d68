use Rattle.std.proofs.Common.{◌≡◌, drop}
use Rattle.check_tables.specs.names.Names.{with_names}
use Rattle.check_scopes.specs.signatures.inner.Tables.{numbered_from, table_of}
use Rattle.check_rules.specs.CoreOf.{node_name}
use Rattle.check_wires.proofs.cores.nodes.node_names.Given as goal

abbrev pub invariant-loop-number : goal.invariant-loop-number
invariant-loop-number l = with_names l.names (numbered_from node_name l.number (drop l.number l.nodes)) ≡ table_of node_name l.nodes
