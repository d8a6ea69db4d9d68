use Rattle.std.proofs.Common.{◌≡◌, ◌++◌, drop}
use Rattle.c_calls.specs.Steps.{writes_from}
use Rattle.c_calls.proofs.steps.writes.Given as goal

abbrev pub invariant-loop-number : goal.invariant-loop-number
invariant-loop-number l =
    l.statements ++ writes_from l.core l.names l.number (drop l.number l.nodes) ≡ writes_from l.core l.names 0 l.nodes
