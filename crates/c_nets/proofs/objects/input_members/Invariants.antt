use Rattle.std.proofs.Common.{◌≡◌, ◌++◌, drop}
use Rattle.c_types.specs.Gathered.{gathered}
use Rattle.c_nets.specs.Objects.{input_members}
use Rattle.c_nets.proofs.objects.input_members.Given as goal

abbrev pub invariant-loop-place : goal.invariant-loop-place
invariant-loop-place l = l.members ++ input_members (gathered l.types) l.core l.node l.place (drop l.place l.ports)
    ≡ input_members (gathered l.types) l.core l.node 0 l.ports
