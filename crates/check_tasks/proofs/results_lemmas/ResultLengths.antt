-- How many outputs and alternatives there are.
use native.Mathlib.Omega.{arith}
use Rattle.std.proofs.Common.{◌≡◌, Some, List, [], ◌∷◌, ◌++◌, length}
use Rattle.std.proofs.lemmas.Grind.{common_steps}
use Rattle.hume_base.specs.declared.types.Ty.{Ty}
use Rattle.hume_ast.specs.declared.tree.Pat.{Pat}
use Rattle.check_typing.specs.Signatures.{Scope}
use Rattle.check_typing.specs.Patterns.{pattern}
use Rattle.check_typing.specs.Results.{CoredOut, CoredResArm}
use Rattle.check_typing.specs.inner.ResultWalk.{ResultWalk, all_outputs, arms_result}
use Rattle.check_typing.specs.declared.signatures.Signatures.{Signatures}
use Rattle.check_tasks.proofs.Given.{by_case, given_some, given_none}

ruleset steps = (common_steps, given_some, given_none)

pub all_outputs_length : (scope : Scope) (parts : List ResultWalk) (tys : List Ty) (outs : List CoredOut) → all_outputs scope parts tys ≡ Some outs → length outs ≡ length parts
all_outputs_length scope [] [] outs h = grind (arith, steps)
all_outputs_length scope [] (ty ∷ tys) outs h = cc
all_outputs_length scope (part ∷ parts) [] outs h = cc
all_outputs_length scope (part ∷ parts) (ty ∷ tys) outs h =
    by_case (part.output scope ty) (λ n. grind (arith, steps)) (λ first f.
    by_case (all_outputs scope parts tys) (λ n. grind (arith, steps)) (λ others g.
    let e = all_outputs_length scope parts tys others g in grind (arith, steps)))

pub arms_result_length : (s : Signatures) (scope : Scope) (of : Ty) (arms : List (Pat × ResultWalk)) (tys : List Ty) (cs : List CoredResArm)
    → arms_result s scope of arms tys ≡ Some cs → length cs ≡ length arms
arms_result_length s scope of [] tys cs h = grind (arith, steps)
arms_result_length s scope of (arm ∷ arms) tys cs h =
    by_case (pattern s arm.0 of) (λ n. grind (arith, steps)) (λ bound b.
    by_case (arm.1.result (scope ++ bound.0) tys) (λ n. grind (arith, steps)) (λ body f.
    by_case (arms_result s scope of arms tys) (λ n. grind (arith, steps)) (λ others g.
    let e = arms_result_length s scope of arms tys others g in grind (arith, steps))))
