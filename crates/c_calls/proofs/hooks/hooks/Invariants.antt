use Rattle.std.proofs.Common.{◌≡◌, ◌++◌, drop}
use Rattle.c_types.specs.Gathered.{gathered}
use Rattle.c_calls.specs.Hooks.{hooks_from}
use Rattle.c_calls.proofs.hooks.hooks.Given as goal

abbrev pub invariant-loop-number : goal.invariant-loop-number
invariant-loop-number l =
    l.items ++ hooks_from (gathered l.types) l.core l.number (drop l.number l.nodes) ≡ hooks_from (gathered l.types) l.core 0 l.nodes
