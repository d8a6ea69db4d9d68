-- What becomes of an expression or a result depends on the functions of a core alone.
use Rattle.std.proofs.Common.{◌≡◌, ℕ, Option, Some, None, refl}
use Rattle.hume_model.specs.declared.core_tree.Expr.{Expr, fold-Expr}
use Rattle.hume_model.specs.declared.core_tree.Expr.TheOpen.{Expr-F}
use Rattle.hume_model.specs.declared.core_tree.Res.{Res, fold-Res}
use Rattle.hume_model.specs.declared.core_tree.Core.{Core}
use Rattle.calculus_laws.specs.Unfolding.{Looked, look_result_step, look_step, looked, looked_result, unfold_step}
use Rattle.calculus_unfolding.specs.inner.Changes.{alone, result_changed}

module _ (core : Core) where
  same_step : (layer : Expr-F (Looked Expr)) (scope : ℕ) → unfold_step (alone core.funs) layer scope ≡ unfold_step core layer scope
  same_step (Expr-F.Word word) scope = refl
  same_step (Expr-F.Var number) scope = refl
  same_step (Expr-F.Con place parts) scope = refl
  same_step (Expr-F.Tuple parts) scope = refl
  same_step (Expr-F.Vect parts) scope = refl
  same_step (Expr-F.Prim op ty parts) scope = refl
  same_step (Expr-F.Index count vector place) scope = refl
  same_step (Expr-F.Update count vector place item) scope = refl
  same_step (Expr-F.If test when_true when_false) scope = refl
  same_step (Expr-F.Case part forms arms) scope = refl
  same_step (Expr-F.Let part body) scope = refl
  same_step (Expr-F.Call function parts) scope = refl
  same_step (Expr-F.Raise exn None) scope = refl
  same_step (Expr-F.Raise exn (Some part)) scope = refl

  same_look : (layer : Expr-F (Looked Expr)) → look_step (alone core.funs) layer ≡ look_step core layer
  same_look layer = λ i. record {
    tree = (look_step core layer).tree;
    unfolded = λ scope. same_step layer scope i;
  }

  looked_alone : (e : Expr) → looked (alone core.funs) e ≡ looked core e
  looked_alone e = λ i. fold-Expr (Looked Expr) (λ layer. same_look layer i) e

  pub result_changed_alone : (scope : ℕ) (result : Res) → result_changed (alone core.funs) scope result ≡ result_changed core scope result
  result_changed_alone scope result = λ i. (fold-Res (Looked Res) (look_result_step (λ e. looked_alone e i)) result).unfolded scope
