-- The values of a type, and what patterns match and expressions come to, one level at a time.
use Rattle.std.proofs.Common.{◌≡◌, ℕ, ◌==◌, nat_lt, Bool, List, [], ◌∷◌, ◌++◌, map, Some, None, slice_get, ap, sym, ◌∙◌, if◌then◌else◌}
use Rattle.hume_base.specs.declared.boxed.Box.{Box}
use Rattle.hume_base.specs.declared.types.Ty.{Ty, fold-roll-Ty}
use Rattle.hume_base.specs.declared.types.Ty.TheOpen.{Ty-F}
use Rattle.hume_base.specs.declared.types.Ty.TheVariants as ty
use Rattle.hume_base.specs.declared.types.Value.{Value, out-Value, out-roll-Value}
use Rattle.hume_base.specs.declared.types.Value.TheOpen.{Value-F}
use Rattle.hume_base.specs.declared.types.Value.TheVariants as value
use Rattle.hume_base.specs.Values.{is_value_with, value_step, is_word_of, is_int_word, is_tuple_of, is_vector_of}
use Rattle.hume_model.specs.declared.core_tree.Forms.{Forms}
use Rattle.hume_model.specs.declared.core_tree.Op.{Op}
use Rattle.hume_model.specs.declared.core_tree.PatC.{PatC, fold-roll-PatC}
use Rattle.hume_model.specs.declared.core_tree.PatC.TheOpen.{PatC-F}
use Rattle.hume_model.specs.declared.core_tree.PatC.TheVariants as pat
use Rattle.hume_model.specs.declared.core_tree.Expr.{Expr, fold-roll-Expr}
use Rattle.hume_model.specs.declared.core_tree.Expr.TheOpen.{Expr-F}
use Rattle.hume_model.specs.declared.core_tree.Expr.TheVariants as expr
use Rattle.hume_model.specs.declared.outcome.Outcome.TheVariants.{Gives}
use Rattle.hume_model.specs.Outcomes.{Meaning, and_then, with_all, in_order, raised}
use Rattle.hume_base.specs.Flat.{word_of_value}
use Rattle.hume_model.specs.Operations.{prim, item_of, updated}
use Rattle.hume_model.specs.Patterns.{Match, match_step, match_word, match_con, match_tuple, matches}
use Rattle.hume_model.specs.Meaning.{Calls, eval_with, eval_step, variable, first_arm}
use Rattle.hume_model.specs.inner.Arms.{arm_with}

-- values
pub out-word : (w : ℕ) → out-Value (value.Word w) ≡ Value-F.Word w
out-word w = ap out-Value (sym (value.rolls-Word w)) ∙ out-roll-Value (Value-F.Word w)

pub out-tuple : (vs : List Value) → out-Value (value.Tuple vs) ≡ Value-F.Tuple vs
out-tuple vs = ap out-Value (sym (value.rolls-Tuple vs)) ∙ out-roll-Value (Value-F.Tuple vs)

pub out-vector : (vs : List Value) → out-Value (value.Vector vs) ≡ Value-F.Vector vs
out-vector vs = ap out-Value (sym (value.rolls-Vector vs)) ∙ out-roll-Value (Value-F.Vector vs)

pub out-con : (c : ℕ) (vs : List Value) → out-Value (value.Con c vs) ≡ Value-F.Con c vs
out-con c vs = ap out-Value (sym (value.rolls-Con c vs)) ∙ out-roll-Value (Value-F.Con c vs)

module _ (named : ℕ → Value → Bool) (v : Value) where
  pub bool-value : is_value_with named ty.Bool v ≡ is_word_of (λ word. nat_lt word 2) (out-Value v)
  bool-value = ap (λ t. is_value_with named t v) (sym (ty.rolls-Bool)) ∙ ap (λ (t : Value → Bool). t v) (fold-roll-Ty (Value → Bool) (value_step named) Ty-F.Bool)

  pub int-value : (bits : ℕ) → is_value_with named (ty.Int bits) v ≡ is_word_of (is_int_word bits) (out-Value v)
  int-value bits = ap (λ t. is_value_with named t v) (sym (ty.rolls-Int bits)) ∙ ap (λ (t : Value → Bool). t v) (fold-roll-Ty (Value → Bool) (value_step named) (Ty-F.Int bits))

  pub tuple-value : (tys : List Ty) → is_value_with named (ty.Tuple tys) v ≡ is_tuple_of (map (is_value_with named) tys) (out-Value v)
  tuple-value tys = ap (λ t. is_value_with named t v) (sym (ty.rolls-Tuple tys)) ∙ ap (λ (t : Value → Bool). t v) (fold-roll-Ty (Value → Bool) (value_step named) (Ty-F.Tuple tys))

  pub vector-value : (count : ℕ) (item : Box Ty) → is_value_with named (ty.Vector count item) v ≡ is_vector_of count (is_value_with named item) (out-Value v)
  vector-value count item = ap (λ t. is_value_with named t v) (sym (ty.rolls-Vector count item)) ∙ ap (λ (t : Value → Bool). t v) (fold-roll-Ty (Value → Bool) (value_step named) (Ty-F.Vector count item))

  pub named-value : (number : ℕ) → is_value_with named (ty.Named number) v ≡ named number v
  named-value number = ap (λ t. is_value_with named t v) (sym (ty.rolls-Named number)) ∙ ap (λ (t : Value → Bool). t v) (fold-roll-Ty (Value → Bool) (value_step named) (Ty-F.Named number))

module _ (v : Value) where
  pub variable-match : matches pat.Var v ≡ Some (v ∷ [])
  variable-match = ap (λ p. matches p v) (sym (pat.rolls-Var)) ∙ ap (λ (m : Match). m v) (fold-roll-PatC Match match_step PatC-F.Var)

  pub any-match : matches pat.Any v ≡ Some []
  any-match = ap (λ p. matches p v) (sym (pat.rolls-Any)) ∙ ap (λ (m : Match). m v) (fold-roll-PatC Match match_step PatC-F.Any)

  pub word-match : (w : ℕ) → matches (pat.Word w) v ≡ match_word w (out-Value v)
  word-match w = ap (λ p. matches p v) (sym (pat.rolls-Word w)) ∙ ap (λ (m : Match). m v) (fold-roll-PatC Match match_step (PatC-F.Word w))

  pub con-match : (c : ℕ) (ps : List PatC) → matches (pat.Con c ps) v ≡ match_con c (map matches ps) (out-Value v)
  con-match c ps = ap (λ p. matches p v) (sym (pat.rolls-Con c ps)) ∙ ap (λ (m : Match). m v) (fold-roll-PatC Match match_step (PatC-F.Con c ps))

  pub tuple-match : (ps : List PatC) → matches (pat.Tuple ps) v ≡ match_tuple (map matches ps) (out-Value v)
  tuple-match ps = ap (λ p. matches p v) (sym (pat.rolls-Tuple ps)) ∙ ap (λ (m : Match). m v) (fold-roll-PatC Match match_step (PatC-F.Tuple ps))

module _ (call : Calls) (env : List Value) where
  abbrev meaning : Expr → Meaning
  meaning = eval_with call

  pub eval-word : (w : ℕ) → meaning (expr.Word w) env ≡ Gives (value.Word w)
  eval-word w = ap (λ e. meaning e env) (sym (expr.rolls-Word w)) ∙ ap (λ (m : Meaning). m env) (fold-roll-Expr Meaning (eval_step call) (Expr-F.Word w))

  pub eval-variable : (n : ℕ) → meaning (expr.Var n) env ≡ Gives (variable (slice_get env n))
  eval-variable n = ap (λ e. meaning e env) (sym (expr.rolls-Var n)) ∙ ap (λ (m : Meaning). m env) (fold-roll-Expr Meaning (eval_step call) (Expr-F.Var n))

  pub eval-con : (c : ℕ) (es : List Expr) → meaning (expr.Con c es) env ≡ with_all (in_order (map meaning es) env) (λ vs. Gives (value.Con c vs))
  eval-con c es = ap (λ e. meaning e env) (sym (expr.rolls-Con c es)) ∙ ap (λ (m : Meaning). m env) (fold-roll-Expr Meaning (eval_step call) (Expr-F.Con c es))

  pub eval-tuple : (es : List Expr) → meaning (expr.Tuple es) env ≡ with_all (in_order (map meaning es) env) (λ vs. Gives (value.Tuple vs))
  eval-tuple es = ap (λ e. meaning e env) (sym (expr.rolls-Tuple es)) ∙ ap (λ (m : Meaning). m env) (fold-roll-Expr Meaning (eval_step call) (Expr-F.Tuple es))

  pub eval-vector : (es : List Expr) → meaning (expr.Vect es) env ≡ with_all (in_order (map meaning es) env) (λ vs. Gives (value.Vector vs))
  eval-vector es = ap (λ e. meaning e env) (sym (expr.rolls-Vect es)) ∙ ap (λ (m : Meaning). m env) (fold-roll-Expr Meaning (eval_step call) (Expr-F.Vect es))

  pub eval-prim : (op : Op) (t : Ty) (es : List Expr) → meaning (expr.Prim op t es) env ≡ with_all (in_order (map meaning es) env) (prim op t)
  eval-prim op t es = ap (λ e. meaning e env) (sym (expr.rolls-Prim op t es)) ∙ ap (λ (m : Meaning). m env) (fold-roll-Expr Meaning (eval_step call) (Expr-F.Prim op t es))

  pub eval-index : (n : ℕ) (v k : Box Expr) → meaning (expr.Index n v k) env ≡ and_then (meaning v env) (λ a. and_then (meaning k env) (item_of n a))
  eval-index n v k = ap (λ e. meaning e env) (sym (expr.rolls-Index n v k)) ∙ ap (λ (m : Meaning). m env) (fold-roll-Expr Meaning (eval_step call) (Expr-F.Index n v k))

  pub eval-update : (n : ℕ) (v k e : Box Expr) → meaning (expr.Update n v k e) env ≡ and_then (meaning v env) (λ a. and_then (meaning k env) (λ p. and_then (meaning e env) (updated n a p)))
  eval-update n v k e = ap (λ e. meaning e env) (sym (expr.rolls-Update n v k e)) ∙ ap (λ (m : Meaning). m env) (fold-roll-Expr Meaning (eval_step call) (Expr-F.Update n v k e))

  pub eval-choice : (test a b : Box Expr) → meaning (expr.If test a b) env ≡ and_then (meaning test env) (λ v. if word_of_value v == 0 then meaning b env else meaning a env)
  eval-choice test a b = ap (λ e. meaning e env) (sym (expr.rolls-If test a b)) ∙ ap (λ (m : Meaning). m env) (fold-roll-Expr Meaning (eval_step call) (Expr-F.If test a b))

  pub eval-case : (e : Box Expr) (forms : Forms) (arms : List (PatC × Expr)) → meaning (expr.Case e forms arms) env ≡ and_then (meaning e env) (λ v. first_arm (map (arm_with meaning) arms) v env)
  eval-case e forms arms = ap (λ e. meaning e env) (sym (expr.rolls-Case e forms arms)) ∙ ap (λ (m : Meaning). m env) (fold-roll-Expr Meaning (eval_step call) (Expr-F.Case e forms arms))

  pub eval-let : (a b : Box Expr) → meaning (expr.Let a b) env ≡ and_then (meaning a env) (λ v. meaning b (env ++ v ∷ []))
  eval-let a b = ap (λ e. meaning e env) (sym (expr.rolls-Let a b)) ∙ ap (λ (m : Meaning). m env) (fold-roll-Expr Meaning (eval_step call) (Expr-F.Let a b))

  pub eval-call : (f : ℕ) (es : List Expr) → meaning (expr.Call f es) env ≡ with_all (in_order (map meaning es) env) (call f)
  eval-call f es = ap (λ e. meaning e env) (sym (expr.rolls-Call f es)) ∙ ap (λ (m : Meaning). m env) (fold-roll-Expr Meaning (eval_step call) (Expr-F.Call f es))

  pub eval-raise-none : (x : ℕ) → meaning (expr.Raise x None) env ≡ raised x None env
  eval-raise-none x = ap (λ e. meaning e env) (sym (expr.rolls-Raise x None)) ∙ ap (λ (m : Meaning). m env) (fold-roll-Expr Meaning (eval_step call) (Expr-F.Raise x None))

  pub eval-raise-some : (x : ℕ) (e : Box Expr) → meaning (expr.Raise x (Some e)) env ≡ raised x (Some (meaning e)) env
  eval-raise-some x e = ap (λ e. meaning e env) (sym (expr.rolls-Raise x (Some e))) ∙ ap (λ (m : Meaning). m env) (fold-roll-Expr Meaning (eval_step call) (Expr-F.Raise x (Some e)))
