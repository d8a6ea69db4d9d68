use Rattle.std.proofs.Common.{◌≡◌, ◌++◌, drop}
use Rattle.c_types.specs.Gathered.{gathered}
use Rattle.c_calls.specs.Streams.{nodes_start}
use Rattle.c_calls.proofs.net.nodes_start.Given as goal

abbrev pub invariant-loop-number : goal.invariant-loop-number
invariant-loop-number l =
    l.statements ++ nodes_start (gathered l.types) l.core l.number (drop l.number l.nodes) ≡ nodes_start (gathered l.types) l.core 0 l.nodes
