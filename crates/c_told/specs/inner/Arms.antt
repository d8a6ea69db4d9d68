-- The types that arms tell, as trees.
use Rattle.std.specs.Prelude.{List}
use Rattle.std.specs.List.{flat_map}
use Rattle.hume_base.specs.declared.types.Ty.{Ty}
use Rattle.hume_model.specs.declared.core_tree.PatC.{PatC}
use Rattle.typed_core.specs.declared.typed_tree.TypedExpr.{TypedExpr}
use Rattle.typed_core.specs.declared.typed_tree.TypedResult.{TypedResult}
use Rattle.c_told.specs.Told.{expression_tells, result_tells}

abbrev pub arms_tell : List (PatC × TypedExpr) → List Ty
arms_tell arms = flat_map (λ (arm : PatC × TypedExpr). expression_tells arm.1) arms

abbrev pub result_arms_tell : List (PatC × TypedResult) → List Ty
result_arms_tell arms = flat_map (λ (arm : PatC × TypedResult). result_tells arm.1) arms
