use Rattle.std.proofs.Common.{◌≡◌}
use Rattle.c_nets.specs.FairRules.{first_place}
use Rattle.c_nets.specs.Parts.{each_below}
use Rattle.c_nets.proofs.orders.order_started.Given as goal

abbrev pub invariant-loop-place : goal.invariant-loop-place
invariant-loop-place l = l.statements ≡ each_below (first_place l.names l.b) l.place
