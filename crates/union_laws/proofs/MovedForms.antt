-- What moves in a type, an expression and a result, form by form.
use Rattle.std.proofs.Common.{◌≡◌, ℕ, ◌+◌, List, map, Option, Some, None, ap, sym, ◌∙◌}
use Rattle.std.specs.Option.{option_map}
use Rattle.hume_base.specs.declared.boxed.Box.{Box}
use Rattle.hume_base.specs.declared.types.Ty.{Ty, fold-roll-Ty, roll-Ty}
use Rattle.hume_base.specs.declared.types.Ty.TheOpen.{Ty-F}
use Rattle.hume_base.specs.declared.types.Ty.TheVariants as shape
use Rattle.hume_model.specs.declared.core_tree.Forms.{Forms}
use Rattle.hume_model.specs.declared.core_tree.Op.{Op}
use Rattle.hume_model.specs.declared.core_tree.PatC.{PatC}
use Rattle.hume_model.specs.declared.core_tree.Expr.{Expr, fold-roll-Expr, map-Expr, roll-Expr}
use Rattle.hume_model.specs.declared.core_tree.Expr.TheOpen.{Expr-F}
use Rattle.hume_model.specs.declared.core_tree.Expr.TheVariants as expr
use Rattle.hume_model.specs.declared.core_tree.Res.{Res, fold-roll-Res, map-Res, roll-Res}
use Rattle.hume_model.specs.declared.core_tree.Res.TheOpen.{Res-F}
use Rattle.hume_model.specs.declared.core_tree.Res.TheVariants as res
use Rattle.union_laws.specs.declared.moves.Moves.{Moves}
use Rattle.union_laws.specs.Moving.{moved, moved_exn, moved_forms, moved_layer, moved_result, moved_result_layer, moved_type, moved_type_layer}

pub type_bool : (moves : Moves) → moved_type moves shape.Bool ≡ shape.Bool
type_bool moves = ap (moved_type moves) (sym shape.rolls-Bool) ∙ fold-roll-Ty Ty (λ x. roll-Ty (moved_type_layer moves x)) Ty-F.Bool ∙ shape.rolls-Bool

pub type_char : (moves : Moves) → moved_type moves shape.Char ≡ shape.Char
type_char moves = ap (moved_type moves) (sym shape.rolls-Char) ∙ fold-roll-Ty Ty (λ x. roll-Ty (moved_type_layer moves x)) Ty-F.Char ∙ shape.rolls-Char

pub type_int : (moves : Moves) (bits : ℕ) → moved_type moves (shape.Int bits) ≡ shape.Int bits
type_int moves bits = ap (moved_type moves) (sym (shape.rolls-Int bits)) ∙ fold-roll-Ty Ty (λ x. roll-Ty (moved_type_layer moves x)) (Ty-F.Int bits) ∙ shape.rolls-Int bits

pub type_nat : (moves : Moves) (bits : ℕ) → moved_type moves (shape.Nat bits) ≡ shape.Nat bits
type_nat moves bits = ap (moved_type moves) (sym (shape.rolls-Nat bits)) ∙ fold-roll-Ty Ty (λ x. roll-Ty (moved_type_layer moves x)) (Ty-F.Nat bits) ∙ shape.rolls-Nat bits

pub type_tuple : (moves : Moves) (tys : List Ty) → moved_type moves (shape.Tuple tys) ≡ shape.Tuple (map (moved_type moves) tys)
type_tuple moves tys =
    ap (moved_type moves) (sym (shape.rolls-Tuple tys)) ∙ fold-roll-Ty Ty (λ x. roll-Ty (moved_type_layer moves x)) (Ty-F.Tuple tys) ∙ shape.rolls-Tuple (map (moved_type moves) tys)

pub type_vector : (moves : Moves) (count : ℕ) (item : Box Ty) → moved_type moves (shape.Vector count item) ≡ shape.Vector count (moved_type moves item)
type_vector moves count item =
    ap (moved_type moves) (sym (shape.rolls-Vector count item)) ∙ fold-roll-Ty Ty (λ x. roll-Ty (moved_type_layer moves x)) (Ty-F.Vector count item)
    ∙ shape.rolls-Vector count (moved_type moves item)

pub type_named : (moves : Moves) (number : ℕ) → moved_type moves (shape.Named number) ≡ shape.Named (moves.types + number)
type_named moves number =
    ap (moved_type moves) (sym (shape.rolls-Named number)) ∙ fold-roll-Ty Ty (λ x. roll-Ty (moved_type_layer moves x)) (Ty-F.Named number)
    ∙ shape.rolls-Named (moves.types + number)

module _ (moves : Moves) where
  expr_at : (x : Expr-F Expr) (e d : Expr) → roll-Expr x ≡ e
      → roll-Expr (moved_layer moves (map-Expr Expr Expr (moved moves) x)) ≡ d → moved moves e ≡ d
  expr_at x e d is then = ap (moved moves) (sym is) ∙ fold-roll-Expr Expr (λ y. roll-Expr (moved_layer moves y)) x ∙ then

  abbrev arm_moved : PatC × Expr → PatC × Expr
  arm_moved arm = (arm.0, moved moves arm.1)

  pub expr_word : (w : ℕ) → moved moves (expr.Word w) ≡ expr.Word w
  expr_word w = expr_at (Expr-F.Word w) _ _ (expr.rolls-Word w) (expr.rolls-Word w)

  pub expr_var : (n : ℕ) → moved moves (expr.Var n) ≡ expr.Var n
  expr_var n = expr_at (Expr-F.Var n) _ _ (expr.rolls-Var n) (expr.rolls-Var n)

  pub expr_con : (c : ℕ) (es : List Expr) → moved moves (expr.Con c es) ≡ expr.Con c (map (moved moves) es)
  expr_con c es = expr_at (Expr-F.Con c es) _ _ (expr.rolls-Con c es) (expr.rolls-Con c (map (moved moves) es))

  pub expr_tuple : (es : List Expr) → moved moves (expr.Tuple es) ≡ expr.Tuple (map (moved moves) es)
  expr_tuple es = expr_at (Expr-F.Tuple es) _ _ (expr.rolls-Tuple es) (expr.rolls-Tuple (map (moved moves) es))

  pub expr_vect : (es : List Expr) → moved moves (expr.Vect es) ≡ expr.Vect (map (moved moves) es)
  expr_vect es = expr_at (Expr-F.Vect es) _ _ (expr.rolls-Vect es) (expr.rolls-Vect (map (moved moves) es))

  pub expr_prim : (op : Op) (ty : Ty) (es : List Expr) → moved moves (expr.Prim op ty es) ≡ expr.Prim op (moved_type moves ty) (map (moved moves) es)
  expr_prim op ty es = expr_at (Expr-F.Prim op ty es) _ _ (expr.rolls-Prim op ty es) (expr.rolls-Prim op (moved_type moves ty) (map (moved moves) es))

  pub expr_index : (n : ℕ) (v k : Box Expr) → moved moves (expr.Index n v k) ≡ expr.Index n (moved moves v) (moved moves k)
  expr_index n v k = expr_at (Expr-F.Index n v k) _ _ (expr.rolls-Index n v k) (expr.rolls-Index n (moved moves v) (moved moves k))

  pub expr_update : (n : ℕ) (v k e : Box Expr) → moved moves (expr.Update n v k e) ≡ expr.Update n (moved moves v) (moved moves k) (moved moves e)
  expr_update n v k e = expr_at (Expr-F.Update n v k e) _ _ (expr.rolls-Update n v k e) (expr.rolls-Update n (moved moves v) (moved moves k) (moved moves e))

  pub expr_if : (t a b : Box Expr) → moved moves (expr.If t a b) ≡ expr.If (moved moves t) (moved moves a) (moved moves b)
  expr_if t a b = expr_at (Expr-F.If t a b) _ _ (expr.rolls-If t a b) (expr.rolls-If (moved moves t) (moved moves a) (moved moves b))

  pub expr_case : (e : Box Expr) (forms : Forms) (arms : List (PatC × Expr)) → moved moves (expr.Case e forms arms) ≡ expr.Case (moved moves e) (moved_forms moves forms) (map arm_moved arms)
  expr_case e forms arms = expr_at (Expr-F.Case e forms arms) _ _ (expr.rolls-Case e forms arms) (expr.rolls-Case (moved moves e) (moved_forms moves forms) (map arm_moved arms))

  pub expr_let : (a b : Box Expr) → moved moves (expr.Let a b) ≡ expr.Let (moved moves a) (moved moves b)
  expr_let a b = expr_at (Expr-F.Let a b) _ _ (expr.rolls-Let a b) (expr.rolls-Let (moved moves a) (moved moves b))

  pub expr_call : (f : ℕ) (es : List Expr) → moved moves (expr.Call f es) ≡ expr.Call (moves.funs + f) (map (moved moves) es)
  expr_call f es = expr_at (Expr-F.Call f es) _ _ (expr.rolls-Call f es) (expr.rolls-Call (moves.funs + f) (map (moved moves) es))

  pub expr_raise : (x : ℕ) → moved moves (expr.Raise x None) ≡ expr.Raise (moved_exn moves x) None
  expr_raise x = expr_at (Expr-F.Raise x None) _ _ (expr.rolls-Raise x None) (expr.rolls-Raise (moved_exn moves x) None)

  pub expr_raise_with : (x : ℕ) (e : Box Expr) → moved moves (expr.Raise x (Some e)) ≡ expr.Raise (moved_exn moves x) (Some (moved moves e))
  expr_raise_with x e = expr_at (Expr-F.Raise x (Some e)) _ _ (expr.rolls-Raise x (Some e)) (expr.rolls-Raise (moved_exn moves x) (Some (moved moves e)))

  result_at : (x : Res-F Res) (r d : Res) → roll-Res x ≡ r → roll-Res (moved_result_layer moves (map-Res Res Res (moved_result moves) x)) ≡ d → moved_result moves r ≡ d
  result_at x r d is then = ap (moved_result moves) (sym is) ∙ fold-roll-Res Res (λ y. roll-Res (moved_result_layer moves y)) x ∙ then

  abbrev result_arm_moved : PatC × Res → PatC × Res
  result_arm_moved arm = (arm.0, moved_result moves arm.1)

  pub result_outs : (outs : List (Option Expr)) → moved_result moves (res.Outs outs) ≡ res.Outs (map (option_map (moved moves)) outs)
  result_outs outs = result_at (Res-F.Outs outs) _ _ (res.rolls-Outs outs) (res.rolls-Outs (map (option_map (moved moves)) outs))

  pub result_if : (t : Expr) (a b : Box Res) → moved_result moves (res.If t a b) ≡ res.If (moved moves t) (moved_result moves a) (moved_result moves b)
  result_if t a b = result_at (Res-F.If t a b) _ _ (res.rolls-If t a b) (res.rolls-If (moved moves t) (moved_result moves a) (moved_result moves b))

  pub result_case : (e : Expr) (forms : Forms) (arms : List (PatC × Res))
      → moved_result moves (res.Case e forms arms) ≡ res.Case (moved moves e) (moved_forms moves forms) (map result_arm_moved arms)
  result_case e forms arms = result_at (Res-F.Case e forms arms) _ _ (res.rolls-Case e forms arms) (res.rolls-Case (moved moves e) (moved_forms moves forms) (map result_arm_moved arms))

  pub result_let : (e : Expr) (b : Box Res) → moved_result moves (res.Let e b) ≡ res.Let (moved moves e) (moved_result moves b)
  result_let e b = result_at (Res-F.Let e b) _ _ (res.rolls-Let e b) (res.rolls-Let (moved moves e) (moved_result moves b))

  pub result_raise : (x : ℕ) (e : Option Expr) → moved_result moves (res.Raise x e) ≡ res.Raise (moved_exn moves x) (option_map (moved moves) e)
  result_raise x e = result_at (Res-F.Raise x e) _ _ (res.rolls-Raise x e) (res.rolls-Raise (moved_exn moves x) (option_map (moved moves) e))
