use Rattle.std.proofs.Common.{◌≡◌, ◌++◌, drop}
use Rattle.c_types.specs.Gathered.{gathered}
use Rattle.c_calls.specs.Streams.{stream_objects}
use Rattle.c_calls.proofs.net.stream_objects.Given as goal

abbrev pub invariant-loop-number : goal.invariant-loop-number
invariant-loop-number l =
    l.items ++ stream_objects (gathered l.types) l.core l.number (drop l.number l.nodes) ≡ stream_objects (gathered l.types) l.core 0 l.nodes
