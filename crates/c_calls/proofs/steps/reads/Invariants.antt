use Rattle.std.proofs.Common.{◌≡◌, ◌++◌, drop}
use Rattle.c_calls.specs.Steps.{reads_from}
use Rattle.c_calls.proofs.steps.reads.Given as goal

abbrev pub invariant-loop-number : goal.invariant-loop-number
invariant-loop-number l =
    l.statements ++ reads_from l.core l.names l.next l.number (drop l.number l.nodes) ≡ reads_from l.core l.names 1 0 l.nodes
