use Rattle.std.proofs.Common.{◌≡◌}
use Rattle.c_nets.specs.Nets.{target_of}
use Rattle.c_nets.specs.Parts.{each_below}
use Rattle.c_nets.specs.SuperSteps.{asserted_at}
use Rattle.c_nets.proofs.super_steps.asserted.Given as goal

abbrev pub invariant-loop-place : goal.invariant-loop-place
invariant-loop-place l =
    l.statements ≡ each_below (λ place. asserted_at l.names l.b l.all place (target_of l.core l.names l.node place)) l.place
