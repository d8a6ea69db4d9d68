use Rattle.std.proofs.Common.{◌≡◌, ◌++◌, drop}
use Rattle.c_analysis.specs.Targets.{target}
use Rattle.c_functions.specs.Functions.{arguments_match}
use Rattle.c_functions.proofs.equations.arguments_match.Given as goal

abbrev pub invariant-loop-place : goal.invariant-loop-place
invariant-loop-place l =
    let rest = arguments_match (target l.s) l.function.params l.place (drop l.place l.patterns) in
    let all = arguments_match (target l.s) l.function.params 0 l.patterns in
    record {
      tests : l.tests ++ rest.tests ≡ all.tests;
      objects : l.scope ++ rest.objects ≡ l.initial.scope ++ all.objects;
    }
