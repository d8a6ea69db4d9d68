use Rattle.std.proofs.Common.{◌≡◌, ◌∷◌}
use Rattle.c_tree.specs.declared.tree.COp.TheVariants as op
use Rattle.c_tree.specs.declared.tree.CExp.TheVariants as exp
use Rattle.c_nets.specs.Inlets.{number}
use Rattle.c_nets.specs.Nets.{target_of}
use Rattle.c_nets.specs.Parts.{each_below, pending}
use Rattle.c_nets.specs.SuperSteps.{test_at}
use Rattle.c_nets.proofs.super_steps.blocked.Given as goal

abbrev pub invariant-loop-place : goal.invariant-loop-place
invariant-loop-place l = l.tests ≡ exp.Binary op.Equal (pending l.names l.b) (number 0)
    ∷ each_below (λ place. test_at l.names l.b l.all place (target_of l.core l.names l.node place)) l.place
