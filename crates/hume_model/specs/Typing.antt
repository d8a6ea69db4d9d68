-- Which patterns, expressions and results of a core are of which type, by the types of their variables.
use Rattle.std.specs.Prelude.{◌≡◌, ℕ, ◌<◌, nat_le, ◌&&◌, Bool, true, false, List, [], ◌∷◌, ◌++◌, length, map, Option, Some, None, slice_get, replicate}
use Rattle.hume_base.specs.declared.limits.TheConstants.{MAX_WIDTH}
use Rattle.hume_base.specs.declared.types.Ty.{Ty, out-Ty}
use Rattle.hume_base.specs.declared.types.Ty.TheOpen.{Ty-F}
use Rattle.hume_base.specs.declared.types.Ty.TheVariants as shape
use Rattle.hume_base.specs.declared.types.SumDef.{SumDef}
use Rattle.hume_base.specs.declared.types.Types.{Types}
use Rattle.hume_base.specs.declared.types.Value.TheVariants as value
use Rattle.hume_base.specs.declared.types.Value.{Value}
use Rattle.hume_base.specs.Values.{is_value, all_pass, fields_at}
use Rattle.hume_model.specs.declared.core_tree.Forms.{Forms}
use Rattle.hume_model.specs.declared.core_tree.Op.{Op}
use Rattle.hume_model.specs.declared.core_tree.Op.TheVariants.{Add, Sub, Mul, Div, Mod, Neg, Not, Convert, Eq, Ne, Lt, Le, Gt, Ge}
use Rattle.hume_model.specs.declared.core_tree.PatC.{PatC}
use Rattle.hume_model.specs.declared.core_tree.PatC.TheVariants as pat
use Rattle.hume_model.specs.declared.core_tree.Expr.{Expr}
use Rattle.hume_model.specs.declared.core_tree.Expr.TheVariants as expr
use Rattle.hume_model.specs.declared.core_tree.EqC.{EqC}
use Rattle.hume_model.specs.declared.core_tree.FunC.{FunC}
use Rattle.hume_model.specs.declared.core_tree.ExnDef.{ExnDef}
use Rattle.hume_model.specs.declared.core_tree.Core.{Core}
use Rattle.hume_model.specs.declared.outcome.Outcome.{Outcome}
use Rattle.hume_model.specs.declared.outcome.Outcome.TheVariants.{Gives, Raises}
use Rattle.hume_model.specs.Forms.{forms_of}

-- `int` and `nat` of at least one bit, and no more than are allowed
abbrev pub is_number_layer : Ty-F Ty → Bool
is_number_layer (Ty-F.Int bits) = nat_le 1 bits && nat_le bits MAX_WIDTH
is_number_layer (Ty-F.Nat bits) = nat_le 1 bits && nat_le bits MAX_WIDTH
is_number_layer _ = false

-- the type is one of numbers
abbrev pub is_number_type : Ty → Bool
is_number_type ty = is_number_layer (out-Ty ty)

-- those and `char`, which are ordered
abbrev pub is_ordered_layer : Ty-F Ty → Bool
is_ordered_layer Ty-F.Char = true
is_ordered_layer layer = is_number_layer layer

-- those and `bool`, which are one word each
abbrev pub is_scalar_layer : Ty-F Ty → Bool
is_scalar_layer Ty-F.Bool = true
is_scalar_layer layer = is_ordered_layer layer

-- the operations that give a number of the type of their two operands
abbrev pub is_arithmetic : Op → Bool
is_arithmetic Add = true
is_arithmetic Sub = true
is_arithmetic Mul = true
is_arithmetic Div = true
is_arithmetic Mod = true
is_arithmetic _ = false

-- the operations that say how two operands of the type compare
abbrev pub is_comparison : Op → Ty → Bool
is_comparison Eq ty = is_scalar_layer (out-Ty ty)
is_comparison Ne ty = is_scalar_layer (out-Ty ty)
is_comparison Lt ty = is_ordered_layer (out-Ty ty)
is_comparison Le ty = is_ordered_layer (out-Ty ty)
is_comparison Gt ty = is_ordered_layer (out-Ty ty)
is_comparison Ge ty = is_ordered_layer (out-Ty ty)
is_comparison _ ty = false

mutual
  -- the pattern is one for values of the type, and its variables have the types
  pub data IsPattern (types : Types) : Ty → PatC → List Ty → Type 0 where
    variable : {ty : Ty} → IsPattern types ty pat.Var (ty ∷ [])
    anything : {ty : Ty} → IsPattern types ty pat.Any []
    word : {ty : Ty} (w : ℕ) → is_value types ty (value.Word w) ≡ true → IsPattern types ty (pat.Word w) []
    con : (number place : ℕ) (sum : SumDef) {pats : List PatC} {vars : List Ty} → slice_get types.sums number ≡ Some sum → place < length sum.cons
        → ArePatterns types (fields_at sum place) pats vars → IsPattern types (shape.Named number) (pat.Con place pats) vars
    tuple : {tys : List Ty} {pats : List PatC} {vars : List Ty} → ArePatterns types tys pats vars → IsPattern types (shape.Tuple tys) (pat.Tuple pats) vars

  -- the same for several patterns, of which the variables of the first ones come first
  pub data ArePatterns (types : Types) : List Ty → List PatC → List Ty → Type 0 where
    none : ArePatterns types [] [] []
    one : {ty : Ty} {tys : List Ty} {p : PatC} {pats : List PatC} {vars more : List Ty} → IsPattern types ty p vars → ArePatterns types tys pats more
        → ArePatterns types (ty ∷ tys) (p ∷ pats) (vars ++ more)

mutual
  -- the expression has the type where its variables have the types
  pub data HasType (core : Core) : List Ty → Expr → Ty → Type 0 where
    word : {vars : List Ty} {ty : Ty} (w : ℕ) → is_value core.types ty (value.Word w) ≡ true → HasType core vars (expr.Word w) ty
    variable : {vars : List Ty} {ty : Ty} (number : ℕ) → slice_get vars number ≡ Some ty → HasType core vars (expr.Var number) ty
    con : {vars : List Ty} (number place : ℕ) (sum : SumDef) {parts : List Expr} → slice_get core.types.sums number ≡ Some sum → place < length sum.cons
        → HaveTypes core vars parts (fields_at sum place) → HasType core vars (expr.Con place parts) (shape.Named number)
    tuple : {vars : List Ty} {parts : List Expr} {tys : List Ty} → HaveTypes core vars parts tys → HasType core vars (expr.Tuple parts) (shape.Tuple tys)
    vector : {vars : List Ty} (count : ℕ) (item : Ty) {parts : List Expr} → HaveTypes core vars parts (replicate {A = Ty} count item)
        → HasType core vars (expr.Vect parts) (shape.Vector count item)
    arithmetic : {vars : List Ty} (op : Op) (ty : Ty) {parts : List Expr} → is_arithmetic op ≡ true → is_number_type ty ≡ true
        → HaveTypes core vars parts (ty ∷ ty ∷ []) → HasType core vars (expr.Prim op ty parts) ty
    comparison : {vars : List Ty} (op : Op) (ty : Ty) {parts : List Expr} → is_comparison op ty ≡ true
        → HaveTypes core vars parts (ty ∷ ty ∷ []) → HasType core vars (expr.Prim op ty parts) shape.Bool
    negation : {vars : List Ty} (ty : Ty) {parts : List Expr} → is_number_type ty ≡ true
        → HaveTypes core vars parts (ty ∷ []) → HasType core vars (expr.Prim Neg ty parts) ty
    opposite : {vars : List Ty} {parts : List Expr} → HaveTypes core vars parts (shape.Bool ∷ [])
        → HasType core vars (expr.Prim Not shape.Bool parts) shape.Bool
    conversion : {vars : List Ty} (from to : Ty) {parts : List Expr} → is_number_type from ≡ true → is_number_type to ≡ true
        → HaveTypes core vars parts (from ∷ []) → HasType core vars (expr.Prim Convert to parts) to
    index : {vars : List Ty} (count : ℕ) (places item : Ty) {vector place : Expr} → is_number_type places ≡ true
        → HasType core vars vector (shape.Vector count item) → HasType core vars place places → HasType core vars (expr.Index count vector place) item
    update : {vars : List Ty} (count : ℕ) (places item : Ty) {vector place new_item : Expr} → is_number_type places ≡ true
        → HasType core vars vector (shape.Vector count item) → HasType core vars place places → HasType core vars new_item item
        → HasType core vars (expr.Update count vector place new_item) (shape.Vector count item)
    choice : {vars : List Ty} {ty : Ty} {test when_true when_false : Expr} → HasType core vars test shape.Bool
        → HasType core vars when_true ty → HasType core vars when_false ty → HasType core vars (expr.If test when_true when_false) ty
    alternatives : {vars : List Ty} (of : Ty) {ty : Ty} {part : Expr} {forms : Forms} {arms : List (PatC × Expr)} → HasType core vars part of
        → forms ≡ forms_of of → ArmsHaveType core vars of arms ty → HasType core vars (expr.Case part forms arms) ty
    binding : {vars : List Ty} (of : Ty) {ty : Ty} {part body : Expr} → HasType core vars part of → HasType core (vars ++ of ∷ []) body ty
        → HasType core vars (expr.Let part body) ty
    call : {vars : List Ty} (number : ℕ) (function : FunC) {parts : List Expr} → slice_get core.funs number ≡ Some function
        → HaveTypes core vars parts function.params → HasType core vars (expr.Call number parts) function.gives
    raise_alone : {vars : List Ty} {ty : Ty} (number : ℕ) (exn : ExnDef) → slice_get core.exns number ≡ Some exn → exn.carries ≡ None
        → HasType core vars (expr.Raise number None) ty
    raise_with : {vars : List Ty} {ty : Ty} (number : ℕ) (exn : ExnDef) (carried : Ty) {part : Expr} → slice_get core.exns number ≡ Some exn
        → exn.carries ≡ Some carried → HasType core vars part carried → HasType core vars (expr.Raise number (Some part)) ty

  -- each expression has the type in its place
  pub data HaveTypes (core : Core) : List Ty → List Expr → List Ty → Type 0 where
    none : {vars : List Ty} → HaveTypes core vars [] []
    one : {vars : List Ty} {e : Expr} {es : List Expr} {ty : Ty} {tys : List Ty} → HasType core vars e ty → HaveTypes core vars es tys
        → HaveTypes core vars (e ∷ es) (ty ∷ tys)

  -- each alternative has a pattern for values of the one type and an expression of the other
  pub data ArmsHaveType (core : Core) : List Ty → Ty → List (PatC × Expr) → Ty → Type 0 where
    no_arm : {vars : List Ty} {of ty : Ty} → ArmsHaveType core vars of [] ty
    one_arm : {vars bound : List Ty} {of ty : Ty} {p : PatC} {e : Expr} {arms : List (PatC × Expr)} → IsPattern core.types of p bound
        → HasType core (vars ++ bound) e ty → ArmsHaveType core vars of arms ty → ArmsHaveType core vars of ((p, e) ∷ arms) ty

-- each equation has patterns for the parameters, and a body of the type that the function gives
pub data EquationsHave (core : Core) (function : FunC) : List EqC → Type 0 where
  none : EquationsHave core function []
  one : {equation : EqC} {equations : List EqC} (vars : List Ty) → ArePatterns core.types function.params equation.pats vars
      → HasType core vars equation.body function.gives → EquationsHave core function equations → EquationsHave core function (equation ∷ equations)

-- each function is such
abbrev pub FunctionsAreTyped : Core → Type 0
FunctionsAreTyped core = (number : ℕ) (function : FunC) → slice_get core.funs number ≡ Some function → EquationsHave core function function.equations

-- what an exception carries, by what its declaration says
abbrev pub is_carried : Types → Option Ty → Option Value → Bool
is_carried types None None = true
is_carried types None (Some v) = false
is_carried types (Some ty) None = false
is_carried types (Some ty) (Some v) = is_value types ty v

-- an exception that there is, and a value of what it carries
abbrev pub is_raised : Types → Option ExnDef → Option Value → Bool
is_raised types None carried = false
is_raised types (Some exn) carried = is_carried types exn.carries carried

-- a value of the type, or an exception of the core with a value of what it carries
abbrev pub is_outcome : Core → Ty → Outcome → Bool
is_outcome core ty (Gives v) = is_value core.types ty v
is_outcome core ty (Raises exn carried) = is_raised core.types (slice_get core.exns exn) carried

-- each value is of the type in its place
abbrev pub AreOf : Types → List Ty → List Value → Type 0
AreOf types tys values = all_pass (map (is_value types) tys) values ≡ true
