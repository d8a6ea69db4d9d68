use Rattle.std.proofs.Common.{◌≡◌, drop}
use Rattle.check_tables.specs.names.Names.{with_names}
use Rattle.check_scopes.specs.signatures.inner.Tables.{numbered_from, table_of}
use Rattle.check_wires.specs.types.NodeTypes.{place_name}
use Rattle.check_wires.proofs.types.ports.port_names.Given as goal

abbrev pub invariant-loop-number : goal.invariant-loop-number
invariant-loop-number l = with_names l.names (numbered_from place_name l.number (drop l.number l.places)) ≡ table_of place_name l.places
