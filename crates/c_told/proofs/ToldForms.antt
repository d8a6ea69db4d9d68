-- Which types expressions and results tell, form by form.
use Rattle.std.proofs.Common.{◌≡◌, ℕ, List, [], ◌∷◌, ◌++◌, Option, Some, None, map, refl, ap, sym, ◌∙◌, append_assoc}
use Rattle.std.specs.List.{flat_map}
use Rattle.std.proofs.lemmas.Grind.{common_steps}
use Rattle.hume_base.specs.declared.types.Ty.{Ty}
use Rattle.hume_model.specs.declared.core_tree.Op.{Op}
use Rattle.hume_model.specs.declared.core_tree.PatC.{PatC}
use Rattle.typed_core.specs.declared.typed_tree.TypedExpr.{TypedExpr, fold-roll-TypedExpr, map-TypedExpr, roll-TypedExpr}
use Rattle.typed_core.specs.declared.typed_tree.TypedExpr.TheOpen.{TypedExpr-F}
use Rattle.typed_core.specs.declared.typed_tree.TypedExpr.TheVariants as typed
use Rattle.typed_core.specs.declared.typed_tree.TypedResult.{TypedResult, fold-roll-TypedResult, map-TypedResult, roll-TypedResult}
use Rattle.typed_core.specs.declared.typed_tree.TypedResult.TheOpen.{TypedResult-F}
use Rattle.typed_core.specs.declared.typed_tree.TypedResult.TheVariants as result
use Rattle.c_types.specs.Gathered.{Gathered, with_added}
use Rattle.c_told.specs.Told.{arm_tells, expression_step, expression_tells, output_tells, result_step, result_tells, with_all}
use Rattle.c_told.specs.inner.Several.{expressions_tell}
use Rattle.c_told.specs.inner.Arms.{arms_tell, result_arms_tell}

form : (e : TypedExpr) (x : TypedExpr-F TypedExpr) → roll-TypedExpr x ≡ e
    → expression_tells e ≡ expression_step (map-TypedExpr TypedExpr (List Ty) expression_tells x)
form e x is = ap expression_tells (sym is) ∙ fold-roll-TypedExpr (List Ty) expression_step x

result_form : (r : TypedResult) (x : TypedResult-F TypedResult) → roll-TypedResult x ≡ r
    → result_tells r ≡ result_step (map-TypedResult TypedResult (List Ty) result_tells x)
result_form r x is = ap result_tells (sym is) ∙ fold-roll-TypedResult (List Ty) result_step x

arms_same : (arms : List (PatC × TypedExpr))
    → arms_tell arms ≡ flat_map arm_tells (map (λ (arm : PatC × TypedExpr). (arm.0, expression_tells arm.1)) arms)
arms_same [] = refl
arms_same (arm ∷ arms) = ap (λ tys. expression_tells arm.1 ++ tys) (arms_same arms)

result_arms_same : (arms : List (PatC × TypedResult))
    → result_arms_tell arms ≡ flat_map arm_tells (map (λ (arm : PatC × TypedResult). (arm.0, result_tells arm.1)) arms)
result_arms_same [] = refl
result_arms_same (arm ∷ arms) = ap (λ tys. result_tells arm.1 ++ tys) (result_arms_same arms)

pub told_word : (word : ℕ) → expression_tells (typed.Word word) ≡ []
told_word word = form _ (TypedExpr-F.Word word) (typed.rolls-Word word)

pub told_variable : (number : ℕ) → expression_tells (typed.Var number) ≡ []
told_variable number = form _ (TypedExpr-F.Var number) (typed.rolls-Var number)

pub told_constructor : (place : ℕ) (parts : List TypedExpr) → expression_tells (typed.Con place parts) ≡ expressions_tell parts
told_constructor place parts = form _ (TypedExpr-F.Con place parts) (typed.rolls-Con place parts)

pub told_tuple : (parts : List TypedExpr) → expression_tells (typed.Tuple parts) ≡ expressions_tell parts
told_tuple parts = form _ (TypedExpr-F.Tuple parts) (typed.rolls-Tuple parts)

pub told_vector : (parts : List TypedExpr) → expression_tells (typed.Vect parts) ≡ expressions_tell parts
told_vector parts = form _ (TypedExpr-F.Vect parts) (typed.rolls-Vect parts)

pub told_operation : (op : Op) (of : Ty) (parts : List TypedExpr) → expression_tells (typed.Prim op of parts) ≡ expressions_tell parts
told_operation op of parts = form _ (TypedExpr-F.Prim op of parts) (typed.rolls-Prim op of parts)

pub told_conversion : (from : Ty) (to : Ty) (part : TypedExpr) → expression_tells (typed.Convert from to part) ≡ expression_tells part
told_conversion from to part = form _ (TypedExpr-F.Convert from to part) (typed.rolls-Convert from to part)

pub told_index : (of : Ty) (places : Ty) (vector : TypedExpr) (place : TypedExpr)
    → expression_tells (typed.Index of places vector place) ≡ of ∷ (expression_tells vector ++ expression_tells place)
told_index of places vector place = form _ (TypedExpr-F.Index of places vector place) (typed.rolls-Index of places vector place)

pub told_update : (of : Ty) (places : Ty) (vector : TypedExpr) (place : TypedExpr) (item : TypedExpr)
    → expression_tells (typed.Update of places vector place item) ≡ of ∷ (expression_tells vector ++ (expression_tells place ++ expression_tells item))
told_update of places vector place item = form _ (TypedExpr-F.Update of places vector place item) (typed.rolls-Update of places vector place item)

pub told_if : (test : TypedExpr) (first : TypedExpr) (second : TypedExpr)
    → expression_tells (typed.If test first second) ≡ expression_tells test ++ (expression_tells first ++ expression_tells second)
told_if test first second = form _ (TypedExpr-F.If test first second) (typed.rolls-If test first second)

pub told_case : (of : Ty) (part : TypedExpr) (arms : List (PatC × TypedExpr))
    → expression_tells (typed.Case of part arms) ≡ of ∷ (expression_tells part ++ arms_tell arms)
told_case of part arms = form _ (TypedExpr-F.Case of part arms) (typed.rolls-Case of part arms)
    ∙ ap (λ tys. of ∷ (expression_tells part ++ tys)) (sym (arms_same arms))

pub told_let : (of : Ty) (part : TypedExpr) (body : TypedExpr)
    → expression_tells (typed.Let of part body) ≡ of ∷ (expression_tells part ++ expression_tells body)
told_let of part body = form _ (TypedExpr-F.Let of part body) (typed.rolls-Let of part body)

pub told_call : (function : ℕ) (parts : List TypedExpr) → expression_tells (typed.Call function parts) ≡ expressions_tell parts
told_call function parts = form _ (TypedExpr-F.Call function parts) (typed.rolls-Call function parts)

pub result_outs : (outs : List (Option TypedExpr)) → result_tells (result.Outs outs) ≡ flat_map output_tells outs
result_outs outs = result_form _ (TypedResult-F.Outs outs) (result.rolls-Outs outs)

pub result_if : (test : TypedExpr) (first : TypedResult) (second : TypedResult)
    → result_tells (result.If test first second) ≡ expression_tells test ++ (result_tells first ++ result_tells second)
result_if test first second = result_form _ (TypedResult-F.If test first second) (result.rolls-If test first second)

pub result_case : (of : Ty) (part : TypedExpr) (arms : List (PatC × TypedResult))
    → result_tells (result.Case of part arms) ≡ of ∷ (expression_tells part ++ result_arms_tell arms)
result_case of part arms = result_form _ (TypedResult-F.Case of part arms) (result.rolls-Case of part arms)
    ∙ ap (λ tys. of ∷ (expression_tells part ++ tys)) (sym (result_arms_same arms))

pub result_let : (of : Ty) (part : TypedExpr) (body : TypedResult)
    → result_tells (result.Let of part body) ≡ of ∷ (expression_tells part ++ result_tells body)
result_let of part body = result_form _ (TypedResult-F.Let of part body) (result.rolls-Let of part body)

pub result_raise : (exn : ℕ) (part : Option TypedExpr) → result_tells (result.Raise exn part) ≡ output_tells part
result_raise exn part = result_form _ (TypedResult-F.Raise exn part) (result.rolls-Raise exn part)

pub told_raise : (exn : ℕ) → expression_tells (typed.Raise exn None) ≡ []
told_raise exn = form _ (TypedExpr-F.Raise exn None) (typed.rolls-Raise exn None)

pub told_raise_with : (exn : ℕ) (part : TypedExpr) → expression_tells (typed.Raise exn (Some part)) ≡ expression_tells part
told_raise_with exn part = form _ (TypedExpr-F.Raise exn (Some part)) (typed.rolls-Raise exn (Some part))

-- types of one list behind those of another
pub more_types : (all : Gathered) (xs ys : List Ty) → with_all (with_all all xs) ys ≡ with_all all (xs ++ ys)
more_types all [] ys = refl
more_types all (x ∷ xs) ys = more_types (with_added all x) xs ys

pub one_type : (all : Gathered) (ty : Ty) → with_added all ty ≡ with_all all (ty ∷ [])
one_type all ty = refl

pub ruleset told_forms = (
  common_steps,
  append_assoc,
  more_types,
  told_word,
  told_variable,
  told_constructor,
  told_tuple,
  told_vector,
  told_operation,
  told_conversion,
  told_index,
  told_update,
  told_if,
  told_case,
  told_let,
  told_call,
  told_raise,
  told_raise_with,
)

pub ruleset result_forms = (
  common_steps,
  append_assoc,
  more_types,
  result_outs,
  result_if,
  result_case,
  result_let,
  result_raise,
)

pub ruleset all_steps = (common_steps, append_assoc, more_types)
