-- Alternatives, with what comes of what stands behind their arrows.
use Rattle.hume_model.specs.declared.core_tree.PatC.{PatC}
use Rattle.hume_model.specs.declared.core_tree.Expr.{Expr}
use Rattle.hume_model.specs.declared.core_tree.Res.{Res}
use Rattle.hume_model.specs.Outcomes.{Meaning}
use Rattle.hume_model.specs.Results.{ResultMeaning}

-- an alternative of an expression, with what its expression comes to
abbrev pub arm_with : (Expr → Meaning) → PatC × Expr → PatC × Meaning
arm_with meaning arm = (arm.0, meaning arm.1)

-- an alternative of a result, with what its result comes to
abbrev pub result_arm_with : (Res → ResultMeaning) → PatC × Res → PatC × ResultMeaning
result_arm_with meaning arm = (arm.0, meaning arm.1)
