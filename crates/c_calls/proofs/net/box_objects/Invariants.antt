use Rattle.std.proofs.Common.{◌≡◌, ◌++◌, drop}
use Rattle.c_types.specs.Gathered.{gathered}
use Rattle.c_calls.specs.Streams.{box_objects}
use Rattle.c_calls.proofs.net.box_objects.Given as goal

abbrev pub invariant-loop-number : goal.invariant-loop-number
invariant-loop-number l =
    l.items ++ box_objects (gathered l.types) l.core l.number (drop l.number l.nodes) ≡ box_objects (gathered l.types) l.core 0 l.nodes
