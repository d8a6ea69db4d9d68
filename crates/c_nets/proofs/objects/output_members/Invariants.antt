use Rattle.std.proofs.Common.{◌≡◌, ◌++◌, drop, map}
use Rattle.c_types.specs.Gathered.{gathered}
use Rattle.c_nets.specs.Objects.{output_member}
use Rattle.c_nets.proofs.objects.output_members.Given as goal

abbrev pub invariant-loop-port : goal.invariant-loop-port
invariant-loop-port l =
    l.members ++ map (output_member (gathered l.types)) (drop l.port-index l.ports) ≡ map (output_member (gathered l.types)) l.ports
