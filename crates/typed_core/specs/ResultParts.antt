-- Which parts a result has, and of which types: the place of a part gives its type and those of the variables around it.
use Rattle.std.specs.Prelude.{List, [], ◌∷◌, ◌++◌, map, Option, Some, None, slice_get}
use Rattle.hume_base.specs.declared.types.Ty.{Ty}
use Rattle.hume_base.specs.declared.types.Ty.TheVariants as shape
use Rattle.hume_base.specs.declared.types.Types.{Types}
use Rattle.hume_model.specs.declared.core_tree.PatC.{PatC}
use Rattle.hume_model.specs.declared.core_tree.Core.{Core}
use Rattle.typed_core.specs.declared.typed_tree.TypedExpr.{TypedExpr}
use Rattle.typed_core.specs.declared.typed_tree.TypedResult.{TypedResult, out-TypedResult}
use Rattle.typed_core.specs.declared.typed_tree.TypedResult.TheOpen.{TypedResult-F}
use Rattle.typed_core.specs.Parts.{Part, bound_by, carried_of, part}
use Rattle.typed_core.specs.ResultTyping.{ResultIsTyped}

-- a result inside of a result, with the types of the variables around it
pub record Inner : Type 0 where
  pub vars : List Ty
  pub result : TypedResult

abbrev pub inner : List Ty → TypedResult → Inner
inner vars result = record { vars = vars; result = result }

-- each output has the type in its place; `bool` where there is none
abbrev pub outs_at : List Ty → List (Option TypedExpr) → List Ty → List Part
outs_at vars [] tys = []
outs_at vars (None ∷ outs) [] = outs_at vars outs []
outs_at vars (None ∷ outs) (ty ∷ tys) = outs_at vars outs tys
outs_at vars (Some e ∷ outs) [] = part vars e shape.Bool ∷ outs_at vars outs []
outs_at vars (Some e ∷ outs) (ty ∷ tys) = part vars e ty ∷ outs_at vars outs tys

-- the expressions of one level of a result that gives outputs of the types
abbrev pub parts_of_layer : Core → List Ty → List Ty → TypedResult-F TypedResult → List Part
parts_of_layer core tys vars (TypedResult-F.Outs outs) = outs_at vars outs tys
parts_of_layer core tys vars (TypedResult-F.If test a b) = part vars test shape.Bool ∷ []
parts_of_layer core tys vars (TypedResult-F.Case of e arms) = part vars e of ∷ []
parts_of_layer core tys vars (TypedResult-F.Let of e b) = part vars e of ∷ []
parts_of_layer core tys vars (TypedResult-F.Raise number None) = []
parts_of_layer core tys vars (TypedResult-F.Raise number (Some e)) = part vars e (carried_of (slice_get core.exns number)) ∷ []

-- the alternatives of a `case` that looks at a value of the type
abbrev pub arm_inners : Types → List Ty → Ty → List (PatC × TypedResult) → List Inner
arm_inners types vars of arms = map (λ (arm : PatC × TypedResult). inner (vars ++ bound_by types arm.0 of) arm.1) arms

-- the results in one level of a result: all give outputs of the same types
abbrev pub inners_of_layer : Core → List Ty → TypedResult-F TypedResult → List Inner
inners_of_layer core vars (TypedResult-F.Outs outs) = []
inners_of_layer core vars (TypedResult-F.If test a b) = inner vars a ∷ inner vars b ∷ []
inners_of_layer core vars (TypedResult-F.Case of e arms) = arm_inners core.types vars of arms
inners_of_layer core vars (TypedResult-F.Let of e b) = inner (vars ++ of ∷ []) b ∷ []
inners_of_layer core vars (TypedResult-F.Raise number e) = []

-- the expressions and the results in a result, where its variables have the types
abbrev pub result_parts : Core → List Ty → List Ty → TypedResult → List Part
result_parts core tys vars result = parts_of_layer core tys vars (out-TypedResult result)

abbrev pub inners : Core → List Ty → TypedResult → List Inner
inners core vars result = inners_of_layer core vars (out-TypedResult result)

-- each of the results gives outputs of the types
abbrev pub EachGives : Core → List Ty → List Inner → Type 0
EachGives core tys [] = Unit {0}
EachGives core tys (r ∷ rs) = ResultIsTyped core tys r.vars r.result × EachGives core tys rs
