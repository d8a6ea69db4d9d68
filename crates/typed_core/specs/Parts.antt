-- Which parts an expression has, and of which types: the place of a part gives its type and those of the variables around it.
use Rattle.std.specs.Prelude.{ℕ, List, [], ◌∷◌, ◌++◌, map, Option, Some, None, slice_get}
use Rattle.hume_base.specs.declared.types.Ty.{Ty, out-Ty}
use Rattle.hume_base.specs.declared.types.Ty.TheOpen.{Ty-F}
use Rattle.hume_base.specs.declared.types.Ty.TheVariants as shape
use Rattle.hume_base.specs.declared.types.SumDef.{SumDef}
use Rattle.hume_base.specs.declared.types.Types.{Types}
use Rattle.hume_base.specs.Values.{fields_at}
use Rattle.hume_model.specs.declared.core_tree.PatC.{PatC, fold-PatC}
use Rattle.hume_model.specs.declared.core_tree.PatC.TheOpen.{PatC-F}
use Rattle.hume_model.specs.declared.core_tree.FunC.{FunC}
use Rattle.hume_model.specs.declared.core_tree.ExnDef.{ExnDef}
use Rattle.hume_model.specs.declared.core_tree.Core.{Core}
use Rattle.typed_core.specs.declared.typed_tree.TypedExpr.{TypedExpr, out-TypedExpr}
use Rattle.typed_core.specs.declared.typed_tree.TypedExpr.TheOpen.{TypedExpr-F}
use Rattle.typed_core.specs.Typing.{IsTyped}

-- a part, with its type and those of the variables around it
pub record Part : Type 0 where
  pub vars : List Ty
  pub tree : TypedExpr
  pub ty : Ty

-- the types of the fields of a constructor of one level of a type
abbrev pub sum_fields : ℕ → Option SumDef → List Ty
sum_fields place None = []
sum_fields place (Some sum) = fields_at sum place

abbrev pub fields_in : Types → ℕ → Ty-F Ty → List Ty
fields_in types place (Ty-F.Named number) = sum_fields place (slice_get types.sums number)
fields_in types place _ = []

-- the types of the parts of a tuple, and that of the elements of a vector
abbrev pub parts_in : Ty-F Ty → List Ty
parts_in (Ty-F.Tuple tys) = tys
parts_in _ = []

abbrev pub item_in : Ty-F Ty → Ty
item_in (Ty-F.Vector count item) = item
item_in _ = shape.Bool

-- the types of a function's parameters, and of what an exception carries
abbrev pub params_of : Option FunC → List Ty
params_of None = []
params_of (Some function) = function.params

abbrev pub carried_in : Option Ty → Ty
carried_in None = shape.Bool
carried_in (Some ty) = ty

abbrev pub carried_of : Option ExnDef → Ty
carried_of None = shape.Bool
carried_of (Some exn) = carried_in exn.carries

-- the types of the variables of several patterns, those of the first ones first
abbrev pub all_bound : List (Ty → List Ty) → List Ty → List Ty
all_bound [] tys = []
all_bound (bound ∷ others) [] = []
all_bound (bound ∷ others) (ty ∷ tys) = bound ty ++ all_bound others tys

-- one level of a pattern
abbrev pub bound_step : Types → PatC-F (Ty → List Ty) → Ty → List Ty
bound_step types PatC-F.Var ty = ty ∷ []
bound_step types PatC-F.Any ty = []
bound_step types (PatC-F.Word word) ty = []
bound_step types (PatC-F.Con place parts) ty = all_bound parts (fields_in types place (out-Ty ty))
bound_step types (PatC-F.Tuple parts) ty = all_bound parts (parts_in (out-Ty ty))

-- the types of the variables of a pattern for values of a type
abbrev pub bound_by : Types → PatC → Ty → List Ty
bound_by types = fold-PatC (Ty → List Ty) (bound_step types)

-- the expression has the type, among these variables
abbrev pub part : List Ty → TypedExpr → Ty → Part
part vars tree ty = record { vars = vars; tree = tree; ty = ty }

-- each expression has the type in its place; `bool` where there is none
abbrev pub parts_at : List Ty → List TypedExpr → List Ty → List Part
parts_at vars [] tys = []
parts_at vars (e ∷ es) [] = part vars e shape.Bool ∷ parts_at vars es []
parts_at vars (e ∷ es) (ty ∷ tys) = part vars e ty ∷ parts_at vars es tys

-- the expressions have one type
abbrev pub parts_of_one : List Ty → Ty → List TypedExpr → List Part
parts_of_one vars ty es = map (λ e. part vars e ty) es

-- the alternatives of a `case` that looks at a value of the one type have the other
abbrev pub arm_parts : Types → List Ty → Ty → Ty → List (PatC × TypedExpr) → List Part
arm_parts types vars of ty arms = map (λ (arm : PatC × TypedExpr). part (vars ++ bound_by types arm.0 of) arm.1 ty) arms

-- the parts of one level of an expression of the type
abbrev pub parts_in_layer : Core → List Ty → Ty → TypedExpr-F TypedExpr → List Part
parts_in_layer core vars ty (TypedExpr-F.Word word) = []
parts_in_layer core vars ty (TypedExpr-F.Var number) = []
parts_in_layer core vars ty (TypedExpr-F.Con place es) = parts_at vars es (fields_in core.types place (out-Ty ty))
parts_in_layer core vars ty (TypedExpr-F.Tuple es) = parts_at vars es (parts_in (out-Ty ty))
parts_in_layer core vars ty (TypedExpr-F.Vect es) = parts_of_one vars (item_in (out-Ty ty)) es
parts_in_layer core vars ty (TypedExpr-F.Prim op of es) = parts_of_one vars of es
parts_in_layer core vars ty (TypedExpr-F.Convert from to e) = part vars e from ∷ []
parts_in_layer core vars ty (TypedExpr-F.Index of places v k) = part vars v of ∷ part vars k places ∷ []
parts_in_layer core vars ty (TypedExpr-F.Update of places v k e) =
    part vars v ty ∷ part vars k places ∷ part vars e (item_in (out-Ty ty)) ∷ []
parts_in_layer core vars ty (TypedExpr-F.If t a b) = part vars t shape.Bool ∷ part vars a ty ∷ part vars b ty ∷ []
parts_in_layer core vars ty (TypedExpr-F.Case of e arms) = part vars e of ∷ arm_parts core.types vars of ty arms
parts_in_layer core vars ty (TypedExpr-F.Let of a b) = part vars a of ∷ part (vars ++ of ∷ []) b ty ∷ []
parts_in_layer core vars ty (TypedExpr-F.Call number es) = parts_at vars es (params_of (slice_get core.funs number))
parts_in_layer core vars ty (TypedExpr-F.Raise number None) = []
parts_in_layer core vars ty (TypedExpr-F.Raise number (Some e)) = part vars e (carried_of (slice_get core.exns number)) ∷ []

-- the parts of an expression of the type, where its variables have the types
abbrev pub parts : Core → List Ty → TypedExpr → Ty → List Part
parts core vars e ty = parts_in_layer core vars ty (out-TypedExpr e)

-- each part has its type
abbrev pub EachIsTyped : Core → List Part → Type 0
EachIsTyped core [] = Unit {0}
EachIsTyped core (p ∷ ps) = IsTyped core p.vars p.tree p.ty × EachIsTyped core ps
