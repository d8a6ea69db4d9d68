use Rattle.std.proofs.Common.{◌≡◌, drop}
use Rattle.std.specs.List.{flat_map}
use Rattle.c_types.specs.Gathered.{gathered}
use Rattle.c_told.specs.Told.{node_tells, with_all}
use Rattle.c_told.proofs.types.add_nodes.Given as goal

abbrev pub invariant-loop-node : goal.invariant-loop-node
invariant-loop-node l =
    with_all (gathered l.types) (flat_map node_tells (drop l.node-index l.nodes)) ≡ with_all (gathered l.initial.types) (flat_map node_tells l.nodes)
