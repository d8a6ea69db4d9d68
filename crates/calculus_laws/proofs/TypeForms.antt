-- What the parts of a typed expression have, by its form, and that others with the same types may stand in their places.
use Rattle.std.proofs.Common.{◌≡◌, ℕ, List, [], ◌∷◌, ◌++◌, Some, None, slice_get, refl, ap, sym, ◌∙◌, subst}
use Rattle.std.specs.Bool.{⊤}
use Rattle.hume_base.specs.declared.types.Ty.{Ty}
use Rattle.hume_base.specs.declared.types.Ty.TheVariants as shape
use Rattle.hume_model.specs.declared.core_tree.Op.TheVariants.{Neg, Not, Convert}
use Rattle.hume_model.specs.declared.core_tree.Expr.{Expr, out-Expr, out-roll-Expr, roll-Expr}
use Rattle.hume_model.specs.declared.core_tree.Expr.TheOpen.{Expr-F}
use Rattle.hume_model.specs.declared.core_tree.Expr.TheVariants as expr
use Rattle.hume_model.specs.declared.core_tree.FunC.{FunC}
use Rattle.hume_model.specs.declared.core_tree.Core.{Core}
use Rattle.hume_model.specs.Typing.{ArmsHaveType, HasType, HaveTypes}
use Rattle.hume_model.specs.Forms.{forms_of}

module _ (core : Core) where
  -- parts in a list
  pub record ListForm (vars : List Ty) (make : List Expr → Expr) (es : List Expr) (ty : Ty) : Type 0 where
    pub tys : List Ty
    pub have : HaveTypes core vars es tys
    pub again : (ds : List Expr) → HaveTypes core vars ds tys → HasType core vars (make ds) ty

  -- two parts, and three
  pub record PairForm (vars : List Ty) (make : Expr → Expr → Expr) (a b : Expr) (ty : Ty) : Type 0 where
    pub first : Ty
    pub second : Ty
    pub have : HaveTypes core vars (a ∷ b ∷ []) (first ∷ second ∷ [])
    pub again : (c d : Expr) → HasType core vars c first → HasType core vars d second → HasType core vars (make c d) ty

  pub record TripleForm (vars : List Ty) (make : Expr → Expr → Expr → Expr) (a b c : Expr) (ty : Ty) : Type 0 where
    pub first : Ty
    pub second : Ty
    pub third : Ty
    pub have : HaveTypes core vars (a ∷ b ∷ c ∷ []) (first ∷ second ∷ third ∷ [])
    pub again : (d e f : Expr) → HasType core vars d first → HasType core vars e second → HasType core vars f third → HasType core vars (make d e f) ty

  -- a call of a function that there is
  pub record CallForm (vars : List Ty) (number : ℕ) (es : List Expr) (ty : Ty) : Type 0 where
    pub function : FunC
    pub known : slice_get core.funs number ≡ Some function
    pub have : HaveTypes core vars es function.params
    pub gives : function.gives ≡ ty

  -- a `let`
  pub record LetForm (vars : List Ty) (a b : Expr) (ty : Ty) : Type 0 where
    pub of : Ty
    pub part : HasType core vars a of
    pub body : HasType core (vars ++ of ∷ []) b ty

  -- an exception with what it carries
  pub record RaiseForm (vars : List Ty) (number : ℕ) (e : Expr) (ty : Ty) : Type 0 where
    pub carried : Ty
    pub part : HasType core vars e carried
    pub again : (d : Expr) → HasType core vars d carried → HasType core vars (expr.Raise number (Some d)) ty

  abbrev pub TypedAs : List Ty → Expr-F Expr → Ty → Type 0
  TypedAs vars (Expr-F.Word w) ty = ⊤
  TypedAs vars (Expr-F.Var n) ty = ⊤
  TypedAs vars (Expr-F.Con c es) ty = ListForm vars (expr.Con c) es ty
  TypedAs vars (Expr-F.Tuple es) ty = ListForm vars expr.Tuple es ty
  TypedAs vars (Expr-F.Vect es) ty = ListForm vars expr.Vect es ty
  TypedAs vars (Expr-F.Prim op at es) ty = ListForm vars (expr.Prim op at) es ty
  TypedAs vars (Expr-F.Index n v k) ty = PairForm vars (λ a b. expr.Index n a b) v k ty
  TypedAs vars (Expr-F.Update n v k e) ty = TripleForm vars (λ a b c. expr.Update n a b c) v k e ty
  TypedAs vars (Expr-F.If t a b) ty = TripleForm vars (λ c d e. expr.If c d e) t a b ty
  TypedAs vars (Expr-F.Case e forms arms) ty = (of : Ty) × HasType core vars e of × (forms ≡ forms_of of) × ArmsHaveType core vars of arms ty
  TypedAs vars (Expr-F.Let a b) ty = LetForm vars a b ty
  TypedAs vars (Expr-F.Call f es) ty = CallForm vars f es ty
  TypedAs vars (Expr-F.Raise x None) ty = ⊤
  TypedAs vars (Expr-F.Raise x (Some e)) ty = RaiseForm vars x e ty

  layer_is : (x : Expr-F Expr) (e : Expr) → roll-Expr x ≡ e → x ≡ out-Expr e
  layer_is x e is = sym (out-roll-Expr x) ∙ ap out-Expr is

  as_out : (vars : List Ty) (ty : Ty) (x : Expr-F Expr) (e : Expr) → roll-Expr x ≡ e → TypedAs vars x ty → TypedAs vars (out-Expr e) ty
  as_out vars ty x e is holds = subst (λ y. TypedAs vars y ty) (layer_is x e is) holds

  typed_as : {vars : List Ty} {e : Expr} {ty : Ty} → HasType core vars e ty → TypedAs vars (out-Expr e) ty
  typed_as {vars} {e} {ty} (HasType.word w is) = as_out vars ty _ _ (expr.rolls-Word w) tt
  typed_as {vars} {e} {ty} (HasType.variable n is) = as_out vars ty _ _ (expr.rolls-Var n) tt
  typed_as {vars} {e} {ty} (HasType.con number place sum {parts = es} known within parts) =
      as_out vars ty _ _ (expr.rolls-Con place es) (record { tys = _; have = parts; again = λ ds have. HasType.con number place sum known within have })
  typed_as {vars} {e} {ty} (HasType.tuple {parts = es} parts) =
      as_out vars ty _ _ (expr.rolls-Tuple es) (record { tys = _; have = parts; again = λ ds have. HasType.tuple have })
  typed_as {vars} {e} {ty} (HasType.vector count item {parts = es} parts) =
      as_out vars ty _ _ (expr.rolls-Vect es) (record { tys = _; have = parts; again = λ ds have. HasType.vector count item have })
  typed_as {vars} {e} {ty} (HasType.arithmetic op at {parts = es} is number parts) =
      as_out vars ty _ _ (expr.rolls-Prim op at es) (record { tys = _; have = parts; again = λ ds have. HasType.arithmetic op at is number have })
  typed_as {vars} {e} {ty} (HasType.comparison op at {parts = es} is parts) =
      as_out vars ty _ _ (expr.rolls-Prim op at es) (record { tys = _; have = parts; again = λ ds have. HasType.comparison op at is have })
  typed_as {vars} {e} {ty} (HasType.negation at {parts = es} number parts) =
      as_out vars ty _ _ (expr.rolls-Prim Neg at es) (record { tys = _; have = parts; again = λ ds have. HasType.negation at number have })
  typed_as {vars} {e} {ty} (HasType.opposite {parts = es} parts) =
      as_out vars ty _ _ (expr.rolls-Prim Not shape.Bool es) (record { tys = _; have = parts; again = λ ds have. HasType.opposite have })
  typed_as {vars} {e} {ty} (HasType.conversion from to {parts = es} is are parts) =
      as_out vars ty _ _ (expr.rolls-Prim Convert to es) (record { tys = _; have = parts; again = λ ds have. HasType.conversion from to is are have })
  typed_as {vars} {e} {ty} (HasType.index count places item {vector = v} {place = k} is vec place) =
      as_out vars ty _ _ (expr.rolls-Index count v k)
      (record { first = _; second = _; have = HaveTypes.one vec (HaveTypes.one place HaveTypes.none); again = λ a b p q. HasType.index count places item is p q })
  typed_as {vars} {e} {ty} (HasType.update count places item {vector = v} {place = k} {new_item = d} is vec place new_item) =
      as_out vars ty _ _ (expr.rolls-Update count v k d)
      (record {
        first = _;
        second = _;
        third = _;
        have = HaveTypes.one vec (HaveTypes.one place (HaveTypes.one new_item HaveTypes.none));
        again = λ a b c p q r. HasType.update count places item is p q r;
      })
  typed_as {vars} {e} {ty} (HasType.choice {test = t} {when_true = a} {when_false = b} test when_true when_false) =
      as_out vars ty _ _ (expr.rolls-If t a b)
      (record {
        first = _;
        second = _;
        third = _;
        have = HaveTypes.one test (HaveTypes.one when_true (HaveTypes.one when_false HaveTypes.none));
        again = λ a b c p q r. HasType.choice p q r;
      })
  typed_as {vars} {e} {ty} (HasType.alternatives of {part = d} {forms = forms} {arms = ways} part is_of arms) = as_out vars ty _ _ (expr.rolls-Case d forms ways) (of, part, is_of, arms)
  typed_as {vars} {e} {ty} (HasType.binding of {part = a} {body = b} part body) = as_out vars ty _ _ (expr.rolls-Let a b) (record { of = of; part = part; body = body })
  typed_as {vars} {e} {ty} (HasType.call number function {parts = es} known parts) =
      as_out vars ty _ _ (expr.rolls-Call number es) (record { function = function; known = known; have = parts; gives = refl })
  typed_as {vars} {e} {ty} (HasType.raise_alone number exn known nothing) = as_out vars ty _ _ (expr.rolls-Raise number None) tt
  typed_as {vars} {e} {ty} (HasType.raise_with number exn carried {part = d} known carries part) =
      as_out vars ty _ _ (expr.rolls-Raise number (Some d)) (record { carried = carried; part = part; again = λ c p. HasType.raise_with number exn carried known carries p })

  -- what an expression of a form has
  pub by_form : {vars : List Ty} {e : Expr} {ty : Ty} (x : Expr-F Expr) → roll-Expr x ≡ e → HasType core vars e ty → TypedAs vars x ty
  by_form {vars} {e} {ty} x is has = subst (λ y. TypedAs vars y ty) (sym (layer_is x e is)) (typed_as has)
