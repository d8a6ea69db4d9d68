-- What a typed tree erases to, form by form.
use Rattle.std.proofs.Common.{◌≡◌, ℕ, List, [], ◌∷◌, map, Option, Some, None, ap, sym, ◌∙◌}
use Rattle.std.specs.Option.{option_map}
use Rattle.std.proofs.lemmas.Grind.{common_steps}
use Rattle.hume_base.specs.declared.boxed.Box.{Box}
use Rattle.hume_base.specs.declared.types.Ty.{Ty, out-Ty, out-roll-Ty}
use Rattle.hume_base.specs.declared.types.Ty.TheOpen.{Ty-F}
use Rattle.hume_base.specs.declared.types.Ty.TheVariants as shape
use Rattle.hume_model.specs.declared.core_tree.Op.{Op}
use Rattle.hume_model.specs.declared.core_tree.Op.TheVariants.{Convert}
use Rattle.hume_model.specs.declared.core_tree.PatC.{PatC}
use Rattle.hume_model.specs.declared.core_tree.Expr.{Expr, roll-Expr}
use Rattle.hume_model.specs.declared.core_tree.Expr.TheVariants as expr
use Rattle.hume_model.specs.declared.core_tree.Res.{Res, roll-Res}
use Rattle.hume_model.specs.declared.core_tree.Res.TheVariants as res
use Rattle.hume_model.specs.Forms.{forms_of}
use Rattle.typed_core.specs.declared.typed_tree.TypedExpr.{TypedExpr, fold-roll-TypedExpr, map-TypedExpr, roll-TypedExpr}
use Rattle.typed_core.specs.declared.typed_tree.TypedExpr.TheOpen.{TypedExpr-F}
use Rattle.typed_core.specs.declared.typed_tree.TypedExpr.TheVariants as typed
use Rattle.typed_core.specs.declared.typed_tree.TypedResult.{TypedResult, fold-roll-TypedResult, map-TypedResult, roll-TypedResult}
use Rattle.typed_core.specs.declared.typed_tree.TypedResult.TheOpen.{TypedResult-F}
use Rattle.typed_core.specs.declared.typed_tree.TypedResult.TheVariants as given
use Rattle.typed_core.specs.Erasing.{count_in, count_of, erased, erased_layer, erased_result, erased_result_layer}

-- a vector has as many elements as its type says
pub count_is : (count : ℕ) (item : Ty) → count_of (shape.Vector count item) ≡ count
count_is count item = ap (λ o. count_in o) (ap out-Ty (sym (shape.rolls-Vector count item)) ∙ out-roll-Ty (Ty-F.Vector count item))

expr_at : (x : TypedExpr-F TypedExpr) (e : TypedExpr) (d : Expr) → roll-TypedExpr x ≡ e
    → roll-Expr (erased_layer (map-TypedExpr TypedExpr Expr erased x)) ≡ d → erased e ≡ d
expr_at x e d is then = ap erased (sym is) ∙ fold-roll-TypedExpr Expr (λ y. roll-Expr (erased_layer y)) x ∙ then

abbrev pub arm_erased : PatC × TypedExpr → PatC × Expr
arm_erased arm = (arm.0, erased arm.1)

pub expr_word : (w : ℕ) → erased (typed.Word w) ≡ expr.Word w
expr_word w = expr_at (TypedExpr-F.Word w) _ _ (typed.rolls-Word w) (expr.rolls-Word w)

pub expr_var : (n : ℕ) → erased (typed.Var n) ≡ expr.Var n
expr_var n = expr_at (TypedExpr-F.Var n) _ _ (typed.rolls-Var n) (expr.rolls-Var n)

pub expr_con : (c : ℕ) (es : List TypedExpr) → erased (typed.Con c es) ≡ expr.Con c (map erased es)
expr_con c es = expr_at (TypedExpr-F.Con c es) _ _ (typed.rolls-Con c es) (expr.rolls-Con c (map erased es))

pub expr_tuple : (es : List TypedExpr) → erased (typed.Tuple es) ≡ expr.Tuple (map erased es)
expr_tuple es = expr_at (TypedExpr-F.Tuple es) _ _ (typed.rolls-Tuple es) (expr.rolls-Tuple (map erased es))

pub expr_vect : (es : List TypedExpr) → erased (typed.Vect es) ≡ expr.Vect (map erased es)
expr_vect es = expr_at (TypedExpr-F.Vect es) _ _ (typed.rolls-Vect es) (expr.rolls-Vect (map erased es))

pub expr_prim : (op : Op) (of : Ty) (es : List TypedExpr) → erased (typed.Prim op of es) ≡ expr.Prim op of (map erased es)
expr_prim op of es = expr_at (TypedExpr-F.Prim op of es) _ _ (typed.rolls-Prim op of es) (expr.rolls-Prim op of (map erased es))

pub expr_convert : (from to : Ty) (e : Box TypedExpr) → erased (typed.Convert from to e) ≡ expr.Prim Convert to (erased e ∷ [])
expr_convert from to e =
    expr_at (TypedExpr-F.Convert from to e) _ _ (typed.rolls-Convert from to e) (expr.rolls-Prim Convert to (erased e ∷ []))

pub expr_index : (n s : Ty) (v k : Box TypedExpr)
    → erased (typed.Index n s v k) ≡ expr.Index (count_of n) (erased v) (erased k)
expr_index n s v k =
    expr_at (TypedExpr-F.Index n s v k) _ _ (typed.rolls-Index n s v k) (expr.rolls-Index (count_of n) (erased v) (erased k))

pub expr_update : (n s : Ty) (v k e : Box TypedExpr)
    → erased (typed.Update n s v k e) ≡ expr.Update (count_of n) (erased v) (erased k) (erased e)
expr_update n s v k e =
    expr_at (TypedExpr-F.Update n s v k e) _ _ (typed.rolls-Update n s v k e)
    (expr.rolls-Update (count_of n) (erased v) (erased k) (erased e))

pub expr_if : (t a b : Box TypedExpr) → erased (typed.If t a b) ≡ expr.If (erased t) (erased a) (erased b)
expr_if t a b = expr_at (TypedExpr-F.If t a b) _ _ (typed.rolls-If t a b) (expr.rolls-If (erased t) (erased a) (erased b))

pub expr_case : (n : Ty) (e : Box TypedExpr) (arms : List (PatC × TypedExpr))
    → erased (typed.Case n e arms) ≡ expr.Case (erased e) (forms_of n) (map arm_erased arms)
expr_case n e arms =
    expr_at (TypedExpr-F.Case n e arms) _ _ (typed.rolls-Case n e arms) (expr.rolls-Case (erased e) (forms_of n) (map arm_erased arms))

pub expr_let : (n : Ty) (a b : Box TypedExpr) → erased (typed.Let n a b) ≡ expr.Let (erased a) (erased b)
expr_let n a b = expr_at (TypedExpr-F.Let n a b) _ _ (typed.rolls-Let n a b) (expr.rolls-Let (erased a) (erased b))

pub expr_call : (f : ℕ) (es : List TypedExpr) → erased (typed.Call f es) ≡ expr.Call f (map erased es)
expr_call f es = expr_at (TypedExpr-F.Call f es) _ _ (typed.rolls-Call f es) (expr.rolls-Call f (map erased es))

pub expr_raise : (x : ℕ) → erased (typed.Raise x None) ≡ expr.Raise x None
expr_raise x = expr_at (TypedExpr-F.Raise x None) _ _ (typed.rolls-Raise x None) (expr.rolls-Raise x None)

pub expr_raise_with : (x : ℕ) (e : Box TypedExpr) → erased (typed.Raise x (Some e)) ≡ expr.Raise x (Some (erased e))
expr_raise_with x e = expr_at (TypedExpr-F.Raise x (Some e)) _ _ (typed.rolls-Raise x (Some e)) (expr.rolls-Raise x (Some (erased e)))

result_at : (x : TypedResult-F TypedResult) (r : TypedResult) (d : Res) → roll-TypedResult x ≡ r
    → roll-Res (erased_result_layer (map-TypedResult TypedResult Res erased_result x)) ≡ d → erased_result r ≡ d
result_at x r d is then = ap erased_result (sym is) ∙ fold-roll-TypedResult Res (λ y. roll-Res (erased_result_layer y)) x ∙ then

abbrev pub result_arm_erased : PatC × TypedResult → PatC × Res
result_arm_erased arm = (arm.0, erased_result arm.1)

pub result_outs : (outs : List (Option TypedExpr)) → erased_result (given.Outs outs) ≡ res.Outs (map (option_map erased) outs)
result_outs outs = result_at (TypedResult-F.Outs outs) _ _ (given.rolls-Outs outs) (res.rolls-Outs (map (option_map erased) outs))

pub result_if : (t : TypedExpr) (a b : Box TypedResult)
    → erased_result (given.If t a b) ≡ res.If (erased t) (erased_result a) (erased_result b)
result_if t a b =
    result_at (TypedResult-F.If t a b) _ _ (given.rolls-If t a b) (res.rolls-If (erased t) (erased_result a) (erased_result b))

pub result_case : (n : Ty) (e : TypedExpr) (arms : List (PatC × TypedResult))
    → erased_result (given.Case n e arms) ≡ res.Case (erased e) (forms_of n) (map result_arm_erased arms)
result_case n e arms =
    result_at (TypedResult-F.Case n e arms) _ _ (given.rolls-Case n e arms)
    (res.rolls-Case (erased e) (forms_of n) (map result_arm_erased arms))

pub result_let : (n : Ty) (e : TypedExpr) (b : Box TypedResult) → erased_result (given.Let n e b) ≡ res.Let (erased e) (erased_result b)
result_let n e b = result_at (TypedResult-F.Let n e b) _ _ (given.rolls-Let n e b) (res.rolls-Let (erased e) (erased_result b))

pub result_raise : (x : ℕ) (e : Option TypedExpr) → erased_result (given.Raise x e) ≡ res.Raise x (option_map erased e)
result_raise x e = result_at (TypedResult-F.Raise x e) _ _ (given.rolls-Raise x e) (res.rolls-Raise x (option_map erased e))

pub ruleset plain_forms = (expr_word, expr_var, expr_con, expr_tuple, expr_vect, expr_prim, expr_convert, expr_index, expr_update)

pub ruleset inner_forms = (expr_if, expr_case, expr_let, expr_call, expr_raise, expr_raise_with)

pub ruleset result_forms = (result_outs, result_if, result_case, result_let, result_raise)

pub ruleset erase_steps = (common_steps, plain_forms, inner_forms, result_forms)
