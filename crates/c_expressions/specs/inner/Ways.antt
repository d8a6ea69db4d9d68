-- Alternatives that have been written and are still to be joined.
use Rattle.std.specs.Prelude.{ℕ, ◌++◌, List, [], ◌∷◌}
use Rattle.hume_base.specs.declared.types.Ty.{Ty}
use Rattle.hume_model.specs.declared.core_tree.PatC.{PatC}
use Rattle.typed_core.specs.declared.typed_tree.TypedExpr.{TypedExpr}
use Rattle.c_tree.specs.declared.tree.CExp.{CExp}
use Rattle.c_expressions.specs.declared.arms.Way.{Way}
use Rattle.c_expressions.specs.declared.made.Destination.{Destination}
use Rattle.c_expressions.specs.declared.made.Made.{Made}
use Rattle.c_expressions.specs.Expressions.{Scope, built, tried}
use Rattle.c_expressions.specs.Patterns.{Match, matched}
use Rattle.c_analysis.specs.Targets.{Target}

-- ways that are tried one after the other, and what is done behind them
abbrev pub ways_before : List Way → Made → Made
ways_before [] last = last
ways_before (way ∷ ways) last = tried way.tests way.made.statements (ways_before ways last)

abbrev pub way_of_match : Target → Match → TypedExpr → Scope → Destination → Ty → ℕ → Way
way_of_match t found body scope into ty next = record { tests = found.tests; made = built t body (scope ++ found.objects) into ty next }

-- one alternative for an object
abbrev pub way_of : Target → PatC × TypedExpr → Ty → CExp → Scope → Destination → Ty → ℕ → Way
way_of t arm of object scope into ty next = way_of_match t (matched t arm.0 of object) arm.1 scope into ty next
