-- What a typed expression erases to has its type.
use Rattle.std.proofs.Common.{◌≡◌, List, [], ◌∷◌, map, refl, ap, sym, ◌∙◌, subst}
use Rattle.hume_base.specs.declared.types.Ty.{Ty}
use Rattle.hume_base.specs.declared.types.Ty.TheVariants as shape
use Rattle.hume_model.specs.declared.core_tree.Op.TheVariants.{Neg, Not}
use Rattle.hume_model.specs.declared.core_tree.PatC.{PatC}
use Rattle.hume_model.specs.declared.core_tree.Expr.{Expr}
use Rattle.hume_model.specs.declared.core_tree.Expr.TheVariants as expr
use Rattle.hume_model.specs.declared.core_tree.FunC.{FunC}
use Rattle.hume_model.specs.declared.core_tree.Core.{Core}
use Rattle.hume_model.specs.Typing.{ArmsHaveType, EquationsHave, HasType, HaveTypes}
use Rattle.typed_core.specs.declared.typed_tree.TypedExpr.{TypedExpr}
use Rattle.typed_core.specs.declared.typed_tree.TypedEquation.{TypedEquation}
use Rattle.typed_core.specs.Declarations.{EquationsAreTyped}
use Rattle.typed_core.specs.Erasing.{erased, erased_equation}
use Rattle.typed_core.specs.Typing.{AreTyped, ArmsAreTyped, IsTyped}
use Rattle.typed_core.proofs.Erased as form

module _ (core : Core) where
  abbrev new : TypedExpr → Expr
  new = erased

  -- an expression that is equal to one of the type has it
  has : {vars : List Ty} {e d : Expr} {ty : Ty} → e ≡ d → HasType core vars d ty → HasType core vars e ty
  has {vars} {ty = ty} is of = subst (λ z. HasType core vars z ty) (sym is) of

  mutual
    pub has_type : {vars : List Ty} {e : TypedExpr} {ty : Ty} → IsTyped core vars e ty → HasType core vars (new e) ty
    has_type (IsTyped.word w is) = has (form.expr_word w) (HasType.word w is)
    has_type (IsTyped.variable n is) = has (form.expr_var n) (HasType.variable n is)
    has_type (IsTyped.con number place sum {parts = es} known within parts) =
        has (form.expr_con place es) (HasType.con number place sum known within (have_types parts))
    has_type (IsTyped.tuple {parts = es} parts) = has (form.expr_tuple es) (HasType.tuple (have_types parts))
    has_type (IsTyped.vector count item {parts = es} parts) = has (form.expr_vect es) (HasType.vector count item (have_types parts))
    has_type (IsTyped.arithmetic op of {parts = es} is number parts) =
        has (form.expr_prim op of es) (HasType.arithmetic op of is number (have_types parts))
    has_type (IsTyped.comparison op of {parts = es} is parts) =
        has (form.expr_prim op of es) (HasType.comparison op of is (have_types parts))
    has_type (IsTyped.negation of {parts = es} number parts) =
        has (form.expr_prim Neg of es) (HasType.negation of number (have_types parts))
    has_type (IsTyped.opposite {parts = es} parts) = has (form.expr_prim Not shape.Bool es) (HasType.opposite (have_types parts))
    has_type (IsTyped.conversion from to {part = e} is are part) =
        has (form.expr_convert from to e)
        (HasType.conversion from to is are (HaveTypes.one (has_type part) HaveTypes.none))
    has_type (IsTyped.index count places item {vector = v} {place = k} is vec place) =
        has (form.expr_index (shape.Vector count item) places v k ∙ ap (λ n. expr.Index n (new v) (new k)) (form.count_is count item))
        (HasType.index count places item is (has_type vec) (has_type place))
    has_type (IsTyped.update count places item {vector = v} {place = k} {new_item = e} is vec place new_item) =
        has (form.expr_update (shape.Vector count item) places v k e ∙ ap (λ n. expr.Update n (new v) (new k) (new e)) (form.count_is count item))
        (HasType.update count places item is (has_type vec) (has_type place) (has_type new_item))
    has_type (IsTyped.choice {test = t} {when_true = a} {when_false = b} test when_true when_false) =
        has (form.expr_if t a b) (HasType.choice (has_type test) (has_type when_true) (has_type when_false))
    has_type (IsTyped.alternatives of {part = e} {arms = ways} part arms) =
        has (form.expr_case of e ways) (HasType.alternatives of (has_type part) refl (arms_have_type arms))
    has_type (IsTyped.binding of {part = a} {body = b} part body) =
        has (form.expr_let of a b) (HasType.binding of (has_type part) (has_type body))
    has_type (IsTyped.call number function {parts = es} known parts) =
        has (form.expr_call number es) (HasType.call number function known (have_types parts))
    has_type (IsTyped.raise_alone number exn known nothing) = has (form.expr_raise number) (HasType.raise_alone number exn known nothing)
    has_type (IsTyped.raise_with number exn carried {part = e} known carries part) =
        has (form.expr_raise_with number e) (HasType.raise_with number exn carried known carries (has_type part))

    have_types : {vars : List Ty} {es : List TypedExpr} {tys : List Ty} → AreTyped core vars es tys → HaveTypes core vars (map new es) tys
    have_types AreTyped.none = HaveTypes.none
    have_types (AreTyped.one first rest) = HaveTypes.one (has_type first) (have_types rest)

    arms_have_type : {vars : List Ty} {of ty : Ty} {arms : List (PatC × TypedExpr)} → ArmsAreTyped core vars of arms ty
        → ArmsHaveType core vars of (map form.arm_erased arms) ty
    arms_have_type ArmsAreTyped.no_arm = ArmsHaveType.no_arm
    arms_have_type (ArmsAreTyped.one_arm pattern body rest) = ArmsHaveType.one_arm pattern (has_type body) (arms_have_type rest)

  pub equations_have : (function : FunC) (equations : List TypedEquation) → EquationsAreTyped core function.params function.gives equations
      → EquationsHave core function (map erased_equation equations)
  equations_have function [] are = EquationsHave.none
  equations_have function (equation ∷ equations) (EquationsAreTyped.one vars pats body rest) =
      EquationsHave.one vars pats (has_type body) (equations_have function equations rest)
