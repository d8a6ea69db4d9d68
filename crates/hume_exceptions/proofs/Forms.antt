-- What is seen of expressions, form by form.
use Rattle.std.proofs.Common.{◌≡◌, ℕ, ◌==◌, ◌&&◌, ◌||◌, not, Bool, false, List, [], ◌∷◌, map, Option, Some, None, refl, ap, sym, ◌∙◌}
use Rattle.std.proofs.lemmas.Grind.{common_steps}
use Rattle.std.specs.List.{list_any, filter_map}
use Rattle.hume_base.specs.declared.types.Ty.{Ty}
use Rattle.hume_base.specs.declared.types.Types.{Types}
use Rattle.hume_model.specs.declared.core_tree.Forms.{Forms}
use Rattle.hume_model.specs.declared.core_tree.Op.{Op}
use Rattle.hume_model.specs.declared.core_tree.Op.TheVariants as op
use Rattle.hume_model.specs.declared.core_tree.PatC.{PatC}
use Rattle.hume_model.specs.declared.core_tree.Expr.{Expr, roll-Expr, out-Expr, map-Expr, fold-roll-Expr, roll-out-Expr, out-roll-Expr}
use Rattle.hume_model.specs.declared.core_tree.Expr.TheOpen.{Expr-F}
use Rattle.hume_model.specs.declared.core_tree.Expr.TheVariants as expr
use Rattle.hume_model.specs.declared.exceptions.TheConstants.{DIV_ZERO, RANGE, NO_CASE}
use Rattle.hume_model.specs.Completeness.{are_complete}
use Rattle.hume_model.specs.Raising.{Seen, some_raise, may_be_zero, may_divide_by_zero, may_be_outside, raises_step, seen_with, raises_with}
use Rattle.hume_exceptions.specs.inner.Seen.{literal_in, literal_of, divisor_may_be_zero}

module _ (e : Expr) (x : Expr-F Expr) (is : roll-Expr x ≡ e) where
  pub out_form : out-Expr e ≡ x
  out_form = ap out-Expr (sym is) ∙ out-roll-Expr x

pub literal-word : (w : ℕ) → literal_of (expr.Word w) ≡ Some w
literal-word w = ap literal_in (out_form _ (Expr-F.Word w) (expr.rolls-Word w))

pub literal-var : (n : ℕ) → literal_of (expr.Var n) ≡ None
literal-var n = ap literal_in (out_form _ (Expr-F.Var n) (expr.rolls-Var n))

pub literal-con : (c : ℕ) (es : List Expr) → literal_of (expr.Con c es) ≡ None
literal-con c es = ap literal_in (out_form _ (Expr-F.Con c es) (expr.rolls-Con c es))

pub literal-tuple : (es : List Expr) → literal_of (expr.Tuple es) ≡ None
literal-tuple es = ap literal_in (out_form _ (Expr-F.Tuple es) (expr.rolls-Tuple es))

pub literal-vect : (es : List Expr) → literal_of (expr.Vect es) ≡ None
literal-vect es = ap literal_in (out_form _ (Expr-F.Vect es) (expr.rolls-Vect es))

pub literal-prim : (o : Op) (t : Ty) (es : List Expr) → literal_of (expr.Prim o t es) ≡ None
literal-prim o t es = ap literal_in (out_form _ (Expr-F.Prim o t es) (expr.rolls-Prim o t es))

pub literal-index : (n : ℕ) (v p : Expr) → literal_of (expr.Index n v p) ≡ None
literal-index n v p = ap literal_in (out_form _ (Expr-F.Index n v p) (expr.rolls-Index n v p))

pub literal-update : (n : ℕ) (v p e : Expr) → literal_of (expr.Update n v p e) ≡ None
literal-update n v p e = ap literal_in (out_form _ (Expr-F.Update n v p e) (expr.rolls-Update n v p e))

pub literal-if : (c a b : Expr) → literal_of (expr.If c a b) ≡ None
literal-if c a b = ap literal_in (out_form _ (Expr-F.If c a b) (expr.rolls-If c a b))

pub literal-case : (e : Expr) (forms : Forms) (arms : List (PatC × Expr)) → literal_of (expr.Case e forms arms) ≡ None
literal-case e forms arms = ap literal_in (out_form _ (Expr-F.Case e forms arms) (expr.rolls-Case e forms arms))

pub literal-let : (a b : Expr) → literal_of (expr.Let a b) ≡ None
literal-let a b = ap literal_in (out_form _ (Expr-F.Let a b) (expr.rolls-Let a b))

pub literal-call : (f : ℕ) (es : List Expr) → literal_of (expr.Call f es) ≡ None
literal-call f es = ap literal_in (out_form _ (Expr-F.Call f es) (expr.rolls-Call f es))

pub literal-raise : (x : ℕ) (part : Option Expr) → literal_of (expr.Raise x part) ≡ None
literal-raise x part = ap literal_in (out_form _ (Expr-F.Raise x part) (expr.rolls-Raise x part))

pub ruleset literal_forms = (common_steps, literal-word, literal-var, literal-con, literal-tuple, literal-vect, literal-prim, literal-index, literal-update, literal-if, literal-case, literal-let, literal-call, literal-raise)

module _ (types : Types) (called : ℕ → Bool) (exn : ℕ) where
  abbrev pub raises : Expr → Bool
  raises = raises_with types called exn

  abbrev pub seen_in : Expr → Seen
  seen_in = seen_with types called exn

  pub seen_form : (e : Expr) (x : Expr-F Expr) → roll-Expr x ≡ e → seen_in e ≡ raises_step types called exn (map-Expr Expr Seen seen_in x)
  seen_form e x is = ap seen_in (sym is) ∙ fold-roll-Expr Seen (raises_step types called exn) x

  pub raises_form : (e : Expr) (x : Expr-F Expr) → roll-Expr x ≡ e → raises e ≡ (raises_step types called exn (map-Expr Expr Seen seen_in x)).raises
  raises_form e x is = ap (λ (s : Seen). s.raises) (seen_form e x is)

  literal_step : (x : Expr-F Expr) → (raises_step types called exn (map-Expr Expr Seen seen_in x)).literal ≡ literal_in x
  literal_step (Expr-F.Word w) = refl
  literal_step (Expr-F.Var n) = refl
  literal_step (Expr-F.Con c es) = refl
  literal_step (Expr-F.Tuple es) = refl
  literal_step (Expr-F.Vect es) = refl
  literal_step (Expr-F.Prim o t es) = refl
  literal_step (Expr-F.Index n v p) = refl
  literal_step (Expr-F.Update n v p e) = refl
  literal_step (Expr-F.If c a b) = refl
  literal_step (Expr-F.Case e forms arms) = refl
  literal_step (Expr-F.Let a b) = refl
  literal_step (Expr-F.Call f es) = refl
  literal_step (Expr-F.Raise x None) = refl
  literal_step (Expr-F.Raise x (Some e)) = refl

  pub literal_seen : (e : Expr) → (seen_in e).literal ≡ literal_of e
  literal_seen e = ap (λ (s : Seen). s.literal) (seen_form e (out-Expr e) (roll-out-Expr e)) ∙ literal_step (out-Expr e)

  some_parts : (es : List Expr) → some_raise (map seen_in es) ≡ list_any raises es
  some_parts [] = refl
  some_parts (e ∷ es) = ap (λ b. raises e || b) (some_parts es)

  divisor_seen : (es : List Expr) → may_divide_by_zero op.Div (map seen_in es) ≡ divisor_may_be_zero op.Div es
  divisor_seen [] = refl
  divisor_seen (a ∷ []) = refl
  divisor_seen (a ∷ b ∷ es) = ap may_be_zero (literal_seen b)

  leaver_seen : (es : List Expr) → may_divide_by_zero op.Mod (map seen_in es) ≡ divisor_may_be_zero op.Mod es
  leaver_seen [] = refl
  leaver_seen (a ∷ []) = refl
  leaver_seen (a ∷ b ∷ es) = ap may_be_zero (literal_seen b)

  divides_seen : (o : Op) (es : List Expr) → may_divide_by_zero o (map seen_in es) ≡ divisor_may_be_zero o es
  divides_seen op.Div es = divisor_seen es
  divides_seen op.Mod es = leaver_seen es
  divides_seen op.Add es = refl
  divides_seen op.Sub es = refl
  divides_seen op.Mul es = refl
  divides_seen op.Neg es = refl
  divides_seen op.Not es = refl
  divides_seen op.Convert es = refl
  divides_seen op.Eq es = refl
  divides_seen op.Ne es = refl
  divides_seen op.Lt es = refl
  divides_seen op.Le es = refl
  divides_seen op.Gt es = refl
  divides_seen op.Ge es = refl

  abbrev pub arm_seen : PatC × Expr → PatC × Seen
  arm_seen arm = (arm.0, seen_in arm.1)

  pub some_arms : (arms : List (PatC × Expr)) → list_any (λ (arm : PatC × Seen). arm.1.raises) (map arm_seen arms) ≡ list_any (λ (arm : PatC × Expr). raises arm.1) arms
  some_arms [] = refl
  some_arms (arm ∷ arms) = ap (λ b. raises arm.1 || b) (some_arms arms)

  pub arm_patterns : (arms : List (PatC × Expr)) → map (λ (arm : PatC × Seen). arm.0) (map arm_seen arms) ≡ filter_map (λ (arm : PatC × Expr). Some arm.0) arms
  arm_patterns [] = refl
  arm_patterns (arm ∷ arms) = ap (λ ps. arm.0 ∷ ps) (arm_patterns arms)

  pub raises-word : (w : ℕ) → raises (expr.Word w) ≡ false
  raises-word w = raises_form _ (Expr-F.Word w) (expr.rolls-Word w)

  pub raises-var : (n : ℕ) → raises (expr.Var n) ≡ false
  raises-var n = raises_form _ (Expr-F.Var n) (expr.rolls-Var n)

  pub raises-con : (c : ℕ) (es : List Expr) → raises (expr.Con c es) ≡ list_any raises es
  raises-con c es = raises_form _ (Expr-F.Con c es) (expr.rolls-Con c es) ∙ some_parts es

  pub raises-tuple : (es : List Expr) → raises (expr.Tuple es) ≡ list_any raises es
  raises-tuple es = raises_form _ (Expr-F.Tuple es) (expr.rolls-Tuple es) ∙ some_parts es

  pub raises-vect : (es : List Expr) → raises (expr.Vect es) ≡ list_any raises es
  raises-vect es = raises_form _ (Expr-F.Vect es) (expr.rolls-Vect es) ∙ some_parts es

  pub raises-prim : (o : Op) (t : Ty) (es : List Expr) → raises (expr.Prim o t es) ≡ (list_any raises es || ((exn == DIV_ZERO) && divisor_may_be_zero o es))
  raises-prim o t es = raises_form _ (Expr-F.Prim o t es) (expr.rolls-Prim o t es) ∙ rw (some_parts es, divides_seen o es) refl

  pub raises-index : (n : ℕ) (v p : Expr) → raises (expr.Index n v p) ≡ (raises v || (raises p || ((exn == RANGE) && may_be_outside n (literal_of p))))
  raises-index n v p = raises_form _ (Expr-F.Index n v p) (expr.rolls-Index n v p) ∙ ap (λ l. raises v || (raises p || ((exn == RANGE) && may_be_outside n l))) (literal_seen p)

  pub raises-update : (n : ℕ) (v p e : Expr) → raises (expr.Update n v p e) ≡ (raises v || (raises p || (raises e || ((exn == RANGE) && may_be_outside n (literal_of p)))))
  raises-update n v p e =
      raises_form _ (Expr-F.Update n v p e) (expr.rolls-Update n v p e) ∙ ap (λ l. raises v || (raises p || (raises e || ((exn == RANGE) && may_be_outside n l)))) (literal_seen p)

  pub raises-if : (c a b : Expr) → raises (expr.If c a b) ≡ (raises c || (raises a || raises b))
  raises-if c a b = raises_form _ (Expr-F.If c a b) (expr.rolls-If c a b)

  pub raises-case : (e : Expr) (forms : Forms) (arms : List (PatC × Expr)) → raises (expr.Case e forms arms)
      ≡ (raises e || (list_any (λ (arm : PatC × Expr). raises arm.1) arms || ((exn == NO_CASE) && not (are_complete types forms (filter_map (λ (arm : PatC × Expr). Some arm.0) arms)))))
  raises-case e forms arms = raises_form _ (Expr-F.Case e forms arms) (expr.rolls-Case e forms arms) ∙ rw (some_arms arms, arm_patterns arms) refl

  pub raises-let : (a b : Expr) → raises (expr.Let a b) ≡ (raises a || raises b)
  raises-let a b = raises_form _ (Expr-F.Let a b) (expr.rolls-Let a b)

  pub raises-call : (f : ℕ) (es : List Expr) → raises (expr.Call f es) ≡ (list_any raises es || called f)
  raises-call f es = raises_form _ (Expr-F.Call f es) (expr.rolls-Call f es) ∙ ap (λ b. b || called f) (some_parts es)

  pub raises-alone : (x : ℕ) → raises (expr.Raise x None) ≡ (x == exn)
  raises-alone x = raises_form _ (Expr-F.Raise x None) (expr.rolls-Raise x None)

  pub raises-with : (x : ℕ) (e : Expr) → raises (expr.Raise x (Some e)) ≡ (raises e || (x == exn))
  raises-with x e = raises_form _ (Expr-F.Raise x (Some e)) (expr.rolls-Raise x (Some e))

pub ruleset raise_forms = (common_steps, raises-con, raises-tuple, raises-vect, raises-prim, raises-index, raises-update, raises-if, raises-case, raises-let, raises-call, raises-alone, raises-with)
