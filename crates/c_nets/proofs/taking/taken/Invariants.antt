use Rattle.std.proofs.Common.{◌≡◌, ◌++◌, drop}
use Rattle.c_nets.specs.Taking.{taken_from}
use Rattle.c_nets.proofs.taking.taken.Given as goal

abbrev pub invariant-loop-place : goal.invariant-loop-place
invariant-loop-place l =
    l.statements ++ taken_from l.core l.names l.node l.b l.place (drop l.place l.positions) ≡ taken_from l.core l.names l.node l.b 0 l.positions
