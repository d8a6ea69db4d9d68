use Rattle.std.proofs.Common.{◌≡◌, drop}
use Rattle.c_analysis.specs.Targets.{target}
use Rattle.c_expressions.specs.inner.Ways.{ways_before}
use Rattle.c_functions.specs.Functions.{equations_built}
use Rattle.c_functions.proofs.equations.equations_built.Given as goal

abbrev pub invariant-loop-place : goal.invariant-loop-place
invariant-loop-place l = ways_before l.ways (equations_built (target l.s) l.function l.to l.complete (drop l.place l.equations) l.next)
    ≡ equations_built (target l.s) l.function l.to l.complete l.equations 1
