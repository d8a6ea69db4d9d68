-- An expression with other numbers for its variables has its type where these have the same types.
use Rattle.std.proofs.Common.{◌≡◌, ℕ, List, [], ◌∷◌, ◌++◌, map, Some, None, ap, sym, ◌∙◌, subst}
use Rattle.hume_base.specs.declared.types.Ty.{Ty}
use Rattle.hume_model.specs.declared.core_tree.Op.TheVariants.{Neg, Not, Convert}
use Rattle.hume_base.specs.declared.types.Ty.TheVariants as shape
use Rattle.hume_model.specs.declared.core_tree.PatC.{PatC}
use Rattle.hume_model.specs.declared.core_tree.Expr.{Expr, roll-Expr, map-Expr, fold-roll-Expr}
use Rattle.hume_model.specs.declared.core_tree.Expr.TheOpen.{Expr-F}
use Rattle.hume_model.specs.declared.core_tree.Expr.TheVariants as expr
use Rattle.hume_model.specs.declared.core_tree.Core.{Core}
use Rattle.hume_model.specs.Typing.{ArmsHaveType, HasType, HaveTypes}
use Rattle.calculus_laws.specs.Unfolding.{renumber_layer, renumbered}
use Rattle.calculus_laws.proofs.Renumbered.{Carries, longer}

module _ (core : Core) (numbers : ℕ → ℕ) where
  abbrev new : Expr → Expr
  new = renumbered numbers

  abbrev arm_new : PatC × Expr → PatC × Expr
  arm_new arm = (arm.0, new arm.1)

  -- an expression of the form is renumbered as its parts are
  opened : (x : Expr-F Expr) (e d : Expr) → roll-Expr x ≡ e → roll-Expr (renumber_layer numbers (map-Expr Expr Expr new x)) ≡ d → new e ≡ d
  opened x e d is then = ap new (sym is) ∙ fold-roll-Expr Expr (λ y. roll-Expr (renumber_layer numbers y)) x ∙ then

  has_at : {vars : List Ty} {ty : Ty} (x : Expr-F Expr) (e d : Expr) → roll-Expr x ≡ e → roll-Expr (renumber_layer numbers (map-Expr Expr Expr new x)) ≡ d
      → HasType core vars d ty → HasType core vars (new e) ty
  has_at {vars} {ty} x e d is then has = subst (λ z. HasType core vars z ty) (sym (opened x e d is then)) has

  mutual
    pub typed_again : {vars : List Ty} {e : Expr} {ty : Ty} → HasType core vars e ty → (others : List Ty) → Carries numbers vars others → HasType core others (new e) ty
    typed_again (HasType.word w is) others carries = has_at (Expr-F.Word w) (expr.Word w) (expr.Word w) (expr.rolls-Word w) (expr.rolls-Word w) (HasType.word w is)
    typed_again (HasType.variable n is) others carries =
        has_at (Expr-F.Var n) (expr.Var n) (expr.Var (numbers n)) (expr.rolls-Var n) (expr.rolls-Var (numbers n)) (HasType.variable (numbers n) (carries.same n ∙ is))
    typed_again (HasType.con number place sum {parts = es} known within parts) others carries =
        has_at (Expr-F.Con place es) (expr.Con place es) (expr.Con place (map new es)) (expr.rolls-Con place es) (expr.rolls-Con place (map new es))
        (HasType.con number place sum known within (all_again parts others carries))
    typed_again (HasType.tuple {parts = es} parts) others carries =
        has_at (Expr-F.Tuple es) (expr.Tuple es) (expr.Tuple (map new es)) (expr.rolls-Tuple es) (expr.rolls-Tuple (map new es)) (HasType.tuple (all_again parts others carries))
    typed_again (HasType.vector count item {parts = es} parts) others carries =
        has_at (Expr-F.Vect es) (expr.Vect es) (expr.Vect (map new es)) (expr.rolls-Vect es) (expr.rolls-Vect (map new es)) (HasType.vector count item (all_again parts others carries))
    typed_again (HasType.arithmetic op ty {parts = es} is number parts) others carries =
        has_at (Expr-F.Prim op ty es) (expr.Prim op ty es) (expr.Prim op ty (map new es)) (expr.rolls-Prim op ty es) (expr.rolls-Prim op ty (map new es))
        (HasType.arithmetic op ty is number (all_again parts others carries))
    typed_again (HasType.comparison op ty {parts = es} is parts) others carries =
        has_at (Expr-F.Prim op ty es) (expr.Prim op ty es) (expr.Prim op ty (map new es)) (expr.rolls-Prim op ty es) (expr.rolls-Prim op ty (map new es))
        (HasType.comparison op ty is (all_again parts others carries))
    typed_again (HasType.negation ty {parts = es} number parts) others carries =
        has_at (Expr-F.Prim Neg ty es) (expr.Prim Neg ty es) (expr.Prim Neg ty (map new es)) (expr.rolls-Prim Neg ty es) (expr.rolls-Prim Neg ty (map new es))
        (HasType.negation ty number (all_again parts others carries))
    typed_again (HasType.opposite {parts = es} parts) others carries =
        has_at (Expr-F.Prim Not shape.Bool es) (expr.Prim Not shape.Bool es) (expr.Prim Not shape.Bool (map new es)) (expr.rolls-Prim Not shape.Bool es)
        (expr.rolls-Prim Not shape.Bool (map new es)) (HasType.opposite (all_again parts others carries))
    typed_again (HasType.conversion from to {parts = es} is are parts) others carries =
        has_at (Expr-F.Prim Convert to es) (expr.Prim Convert to es) (expr.Prim Convert to (map new es)) (expr.rolls-Prim Convert to es) (expr.rolls-Prim Convert to (map new es))
        (HasType.conversion from to is are (all_again parts others carries))
    typed_again (HasType.index count places item {vector = v} {place = k} is vec place) others carries =
        has_at (Expr-F.Index count v k) (expr.Index count v k) (expr.Index count (new v) (new k)) (expr.rolls-Index count v k) (expr.rolls-Index count (new v) (new k))
        (HasType.index count places item is (typed_again vec others carries) (typed_again place others carries))
    typed_again (HasType.update count places item {vector = v} {place = k} {new_item = e} is vec place new_item) others carries =
        has_at (Expr-F.Update count v k e) (expr.Update count v k e) (expr.Update count (new v) (new k) (new e)) (expr.rolls-Update count v k e) (expr.rolls-Update count (new v) (new k) (new e))
        (HasType.update count places item is (typed_again vec others carries) (typed_again place others carries) (typed_again new_item others carries))
    typed_again (HasType.choice {test = t} {when_true = a} {when_false = b} test when_true when_false) others carries =
        has_at (Expr-F.If t a b) (expr.If t a b) (expr.If (new t) (new a) (new b)) (expr.rolls-If t a b) (expr.rolls-If (new t) (new a) (new b))
        (HasType.choice (typed_again test others carries) (typed_again when_true others carries) (typed_again when_false others carries))
    typed_again (HasType.alternatives of {part = e} {forms = forms} {arms = ways} part is_of arms) others carries =
        has_at (Expr-F.Case e forms ways) (expr.Case e forms ways) (expr.Case (new e) forms (map arm_new ways)) (expr.rolls-Case e forms ways) (expr.rolls-Case (new e) forms (map arm_new ways))
        (HasType.alternatives of (typed_again part others carries) is_of (arms_again arms others carries))
    typed_again {vars} (HasType.binding of {part = a} {body = b} part body) others carries =
        has_at (Expr-F.Let a b) (expr.Let a b) (expr.Let (new a) (new b)) (expr.rolls-Let a b) (expr.rolls-Let (new a) (new b))
        (HasType.binding of (typed_again part others carries) (typed_again body (others ++ of ∷ []) (longer numbers vars others (of ∷ []) carries)))
    typed_again (HasType.call number function {parts = es} known parts) others carries =
        has_at (Expr-F.Call number es) (expr.Call number es) (expr.Call number (map new es)) (expr.rolls-Call number es) (expr.rolls-Call number (map new es))
        (HasType.call number function known (all_again parts others carries))
    typed_again (HasType.raise_alone number exn known nothing) others carries =
        has_at (Expr-F.Raise number None) (expr.Raise number None) (expr.Raise number None) (expr.rolls-Raise number None) (expr.rolls-Raise number None)
        (HasType.raise_alone number exn known nothing)
    typed_again (HasType.raise_with number exn carried {part = e} known carries_it part) others carries =
        has_at (Expr-F.Raise number (Some e)) (expr.Raise number (Some e)) (expr.Raise number (Some (new e))) (expr.rolls-Raise number (Some e)) (expr.rolls-Raise number (Some (new e)))
        (HasType.raise_with number exn carried known carries_it (typed_again part others carries))

    all_again : {vars : List Ty} {es : List Expr} {tys : List Ty} → HaveTypes core vars es tys → (others : List Ty) → Carries numbers vars others
        → HaveTypes core others (map new es) tys
    all_again HaveTypes.none others carries = HaveTypes.none
    all_again (HaveTypes.one first rest) others carries = HaveTypes.one (typed_again first others carries) (all_again rest others carries)

    arms_again : {vars : List Ty} {of ty : Ty} {arms : List (PatC × Expr)} → ArmsHaveType core vars of arms ty → (others : List Ty) → Carries numbers vars others
        → ArmsHaveType core others of (map arm_new arms) ty
    arms_again ArmsHaveType.no_arm others carries = ArmsHaveType.no_arm
    arms_again {vars} (ArmsHaveType.one_arm {bound = bs} pattern body rest) others carries =
        ArmsHaveType.one_arm pattern (typed_again body (others ++ bs) (longer numbers vars others bs carries)) (arms_again rest others carries)
