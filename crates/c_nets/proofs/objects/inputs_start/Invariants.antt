use Rattle.std.proofs.Common.{◌≡◌}
use Rattle.c_types.specs.Gathered.{gathered}
use Rattle.c_nets.specs.Nets.{wire_to}
use Rattle.c_nets.specs.Parts.{each_below}
use Rattle.c_nets.specs.Objects.{input_start}
use Rattle.c_nets.proofs.objects.inputs_start.Given as goal

abbrev pub invariant-loop-place : goal.invariant-loop-place
invariant-loop-place l =
    l.statements ≡ each_below (λ place. input_start (gathered l.types) l.b place (wire_to l.core l.node place)) l.place
