-- How many cores there are.
use native.Mathlib.Omega.{arith}
use Rattle.std.proofs.Common.{◌≡◌, ℕ, suc, Option, Some, None, List, [], ◌∷◌, ◌++◌, length, true, false, refl, ap, sym, ◌∙◌}
use Rattle.std.proofs.lemmas.Grind.{common_steps}
use Rattle.hume_base.specs.declared.types.Ty.{Ty}
use Rattle.hume_ast.specs.declared.tree.Pat.{Pat}
use Rattle.check_typing.specs.Partial.{given}
use Rattle.check_typing.specs.Signatures.{Scope}
use Rattle.check_typing.specs.Patterns.{pattern}
use Rattle.check_typing.specs.Cores.{Cored, CoredArm}
use Rattle.check_typing.specs.inner.Walk.{Walk, all_against, each_against, each_own, all_own, arms_against, arms_own}
use Rattle.check_typing.specs.declared.signatures.Signatures.{Signatures}
use Rattle.check_tasks.proofs.Given.{by_case, by_test, given_some, given_none}

ruleset steps = (common_steps, given_some, given_none)

pub all_against_length : (scope : Scope) (parts : List Walk) (tys : List Ty) (cs : List Cored) → all_against scope parts tys ≡ Some cs → length cs ≡ length parts
all_against_length scope [] [] cs h = grind (arith, steps)
all_against_length scope [] (ty ∷ tys) cs h = cc
all_against_length scope (part ∷ parts) [] cs h = cc
all_against_length scope (part ∷ parts) (ty ∷ tys) cs h =
    by_case (part.against scope ty) (λ n. grind (arith, steps)) (λ first f.
    by_case (all_against scope parts tys) (λ n. grind (arith, steps)) (λ others g.
    let e = all_against_length scope parts tys others g in grind (arith, steps)))

pub each_against_length : (scope : Scope) (parts : List Walk) (ty : Ty) (cs : List Cored) → each_against scope parts ty ≡ Some cs → length cs ≡ length parts
each_against_length scope [] ty cs h = grind (arith, steps)
each_against_length scope (part ∷ parts) ty cs h =
    by_case (part.against scope ty) (λ n. grind (arith, steps)) (λ first f.
    by_case (each_against scope parts ty) (λ n. grind (arith, steps)) (λ others g.
    let e = each_against_length scope parts ty others g in grind (arith, steps)))

pub each_own_length : (scope : Scope) (parts : List Walk) (ty : Ty) (cs : List Cored) → each_own scope parts ≡ Some (ty, cs) → length cs ≡ length parts
each_own_length scope [] ty cs h = grind (arith, steps)
each_own_length scope (part ∷ parts) ty cs h =
    by_test part.is_open
    (λ t. by_case (part.own scope) (λ n. grind (arith, steps)) (λ first f.
    by_case (each_against scope parts first.0) (λ n. grind (arith, steps)) (λ others g.
    let e = each_against_length scope parts first.0 others g in grind (arith, steps))))
    (λ t. by_case (each_own scope parts) (λ n. grind (arith, steps)) (λ others g.
    by_case (part.against scope others.0) (λ n. grind (arith, steps)) (λ first f.
    let e = each_own_length scope parts others.0 others.1 g in grind (arith, steps))))

pub all_own_lengths : (scope : Scope) (parts : List Walk) (tys : List Ty) (cs : List Cored) → all_own scope parts ≡ Some (tys, cs)
    → (length tys ≡ length parts) × (length cs ≡ length parts)
all_own_lengths scope [] tys cs h = (grind (arith, steps), grind (arith, steps))
all_own_lengths scope (part ∷ parts) tys cs h =
    by_case (part.own scope) (λ n. (grind (arith, steps), grind (arith, steps))) (λ first f.
    by_case (all_own scope parts) (λ n. (grind (arith, steps), grind (arith, steps))) (λ others g.
    let e = all_own_lengths scope parts others.0 others.1 g in (grind (arith, steps), grind (arith, steps))))

pub arms_against_length : (s : Signatures) (scope : Scope) (of : Ty) (arms : List (Pat × Walk)) (ty : Ty) (cs : List CoredArm)
    → arms_against s scope of arms ty ≡ Some cs → length cs ≡ length arms
arms_against_length s scope of [] ty cs h = grind (arith, steps)
arms_against_length s scope of (arm ∷ arms) ty cs h =
    by_case (pattern s arm.0 of) (λ n. grind (arith, steps)) (λ bound b.
    by_case (arm.1.against (scope ++ bound.0) ty) (λ n. grind (arith, steps)) (λ body f.
    by_case (arms_against s scope of arms ty) (λ n. grind (arith, steps)) (λ others g.
    let e = arms_against_length s scope of arms ty others g in grind (arith, steps))))

pub arms_own_length : (s : Signatures) (scope : Scope) (of : Ty) (arms : List (Pat × Walk)) (ty : Ty) (cs : List CoredArm)
    → arms_own s scope of arms ≡ Some (ty, cs) → length cs ≡ length arms
arms_own_length s scope of [] ty cs h = grind (arith, steps)
arms_own_length s scope of (arm ∷ arms) ty cs h =
    by_test arm.1.is_open
    (λ t. by_case (pattern s arm.0 of) (λ n. grind (arith, steps)) (λ bound b.
    by_case (arm.1.own (scope ++ bound.0)) (λ n. grind (arith, steps)) (λ body f.
    by_case (arms_against s scope of arms body.0) (λ n. grind (arith, steps)) (λ others g.
    let e = arms_against_length s scope of arms body.0 others g in grind (arith, steps)))))
    (λ t. by_case (arms_own s scope of arms) (λ n. grind (arith, steps)) (λ others g.
    by_case (pattern s arm.0 of) (λ n. grind (arith, steps)) (λ bound b.
    by_case (arm.1.against (scope ++ bound.0) others.0) (λ n. grind (arith, steps)) (λ body f.
    let e = arms_own_length s scope of arms others.0 others.1 g in grind (arith, steps)))))
