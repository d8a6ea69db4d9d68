-- What an expression is with other numbers for its variables, form by form.
use Rattle.std.proofs.Common.{◌≡◌, ℕ, List, map, ap, sym, ◌∙◌}
use Rattle.std.proofs.lemmas.Grind.{common_steps}
use Rattle.hume_base.specs.declared.types.Ty.{Ty}
use Rattle.hume_model.specs.declared.core_tree.Forms.{Forms}
use Rattle.hume_model.specs.declared.core_tree.Op.{Op}
use Rattle.hume_model.specs.declared.core_tree.PatC.{PatC}
use Rattle.hume_model.specs.declared.core_tree.Expr.{Expr, roll-Expr, map-Expr, fold-roll-Expr}
use Rattle.hume_model.specs.declared.core_tree.Expr.TheOpen.{Expr-F}
use Rattle.hume_model.specs.declared.core_tree.Expr.TheVariants as expr
use Rattle.calculus_laws.specs.Unfolding.{renumber_layer, renumbered}

module _ (numbers : ℕ → ℕ) where
  form : (e : Expr) (x : Expr-F Expr) → roll-Expr x ≡ e → renumbered numbers e ≡ roll-Expr (renumber_layer numbers (map-Expr Expr Expr (renumbered numbers) x))
  form e x is = ap (renumbered numbers) (sym is) ∙ fold-roll-Expr Expr (λ l. roll-Expr (renumber_layer numbers l)) x

  pub con_renumbered : (c : ℕ) (es : List Expr) → renumbered numbers (expr.Con c es) ≡ expr.Con c (map (renumbered numbers) es)
  con_renumbered c es = form _ (Expr-F.Con c es) (expr.rolls-Con c es) ∙ expr.rolls-Con c (map (renumbered numbers) es)

  pub tuple_renumbered : (es : List Expr) → renumbered numbers (expr.Tuple es) ≡ expr.Tuple (map (renumbered numbers) es)
  tuple_renumbered es = form _ (Expr-F.Tuple es) (expr.rolls-Tuple es) ∙ expr.rolls-Tuple (map (renumbered numbers) es)

  pub vect_renumbered : (es : List Expr) → renumbered numbers (expr.Vect es) ≡ expr.Vect (map (renumbered numbers) es)
  vect_renumbered es = form _ (Expr-F.Vect es) (expr.rolls-Vect es) ∙ expr.rolls-Vect (map (renumbered numbers) es)

  pub prim_renumbered : (op : Op) (ty : Ty) (es : List Expr) → renumbered numbers (expr.Prim op ty es) ≡ expr.Prim op ty (map (renumbered numbers) es)
  prim_renumbered op ty es = form _ (Expr-F.Prim op ty es) (expr.rolls-Prim op ty es) ∙ expr.rolls-Prim op ty (map (renumbered numbers) es)

  pub call_renumbered : (f : ℕ) (es : List Expr) → renumbered numbers (expr.Call f es) ≡ expr.Call f (map (renumbered numbers) es)
  call_renumbered f es = form _ (Expr-F.Call f es) (expr.rolls-Call f es) ∙ expr.rolls-Call f (map (renumbered numbers) es)

  pub case_renumbered : (e : Expr) (forms : Forms) (arms : List (PatC × Expr)) → renumbered numbers (expr.Case e forms arms)
      ≡ expr.Case (renumbered numbers e) forms (map (λ (arm : PatC × Expr). (arm.0, renumbered numbers arm.1)) arms)
  case_renumbered e forms arms =
      form _ (Expr-F.Case e forms arms) (expr.rolls-Case e forms arms)
      ∙ expr.rolls-Case (renumbered numbers e) forms (map (λ (arm : PatC × Expr). (arm.0, renumbered numbers arm.1)) arms)

pub ruleset number_steps = (common_steps, con_renumbered, tuple_renumbered, vect_renumbered, prim_renumbered, call_renumbered, case_renumbered)
