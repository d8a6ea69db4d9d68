-- From forms to their tasks.
use Rattle.std.proofs.Common.{◌≡◌, ℕ, List, Option, Some, None, ap}
use Rattle.std.proofs.lemmas.Grind.{common_steps}
use Rattle.hume_base.specs.declared.types.Ty.{Ty}
use Rattle.hume_ast.specs.declared.tree.Pat.{Pat}
use Rattle.hume_ast.specs.declared.tree.Exp.{Exp, Let, If, Case, Raise}
use Rattle.check_typing.specs.Signatures.{Scope}
use Rattle.check_typing.specs.inner.ResultWalk.{ResultWalk, result_walk}
use Rattle.check_typing.specs.declared.signatures.Signatures.{Signatures}
use Rattle.check_typing.proofs.WalkLevels.{walk_levels, result_levels, let_result_level, if_result_level, case_result_level, raise_result_level, raise_with_result_level}
use Rattle.check_declarations.specs.results.inner.ResultPlans.{let_found, if_found, case_found, raised_found, raise_with_found}

-- what the walk finds of each form through which a result is followed
pub let_followed : (s : Signatures) (name : List ℕ) (a b : Exp) (scope : Scope) (tys : List Ty)
    → (result_walk s (Let name a b)).result scope tys ≡ (let_found s name a b).result scope tys
unfolding let_found
let_followed s name a b scope tys = ap (λ (r : ResultWalk). r.result scope tys) (let_result_level s name a b)

pub if_followed : (s : Signatures) (test a b : Exp) (scope : Scope) (tys : List Ty)
    → (result_walk s (If test a b)).result scope tys ≡ (if_found s test a b).result scope tys
unfolding if_found
if_followed s test a b scope tys = ap (λ (r : ResultWalk). r.result scope tys) (if_result_level s test a b)

pub case_followed : (s : Signatures) (a : Exp) (arms : List (Pat × Exp)) (scope : Scope) (tys : List Ty)
    → (result_walk s (Case a arms)).result scope tys ≡ (case_found s a arms).result scope tys
unfolding case_found
case_followed s a arms scope tys = ap (λ (r : ResultWalk). r.result scope tys) (case_result_level s a arms)

pub raise_followed : (s : Signatures) (name : List ℕ) (carried : Option Exp) (scope : Scope) (tys : List Ty)
    → (result_walk s (Raise name carried)).result scope tys ≡ (raised_found s name carried).result scope tys
unfolding raised_found raise_with_found
raise_followed s name None scope tys = ap (λ (r : ResultWalk). r.result scope tys) (raise_result_level s name)
raise_followed s name (Some a) scope tys = ap (λ (r : ResultWalk). r.result scope tys) (raise_with_result_level s name a)

pub ruleset followed_steps = (common_steps, result_levels, let_followed, if_followed, case_followed, raise_followed)

pub ruleset output_steps = (common_steps, walk_levels, result_levels)
