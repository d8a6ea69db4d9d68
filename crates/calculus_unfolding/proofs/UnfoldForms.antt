-- What becomes of an expression, form by form.
use Rattle.std.proofs.Common.{◌≡◌, ℕ, ◌+◌, Bool, List, Option, Some, None, map, refl, ap, sym, ◌∙◌}
use Rattle.std.specs.Option.{option_map, option_or}
use Rattle.std.proofs.lemmas.Grind.{common_steps}
use Rattle.hume_base.specs.declared.types.Ty.{Ty}
use Rattle.hume_model.specs.declared.core_tree.Forms.{Forms}
use Rattle.hume_model.specs.declared.core_tree.Op.{Op}
use Rattle.hume_model.specs.declared.core_tree.PatC.{PatC}
use Rattle.hume_model.specs.declared.core_tree.Expr.{Expr, out-Expr, out-roll-Expr, roll-Expr, map-Expr, fold-roll-Expr}
use Rattle.hume_model.specs.declared.core_tree.Expr.TheOpen.{Expr-F}
use Rattle.hume_model.specs.declared.core_tree.Expr.TheVariants as expr
use Rattle.hume_model.specs.declared.core_tree.Core.{Core}
use Rattle.calculus_laws.specs.Unfolding.{Looked, call_unfolded, look_step, looked, unfold_step}
use Rattle.calculus_laws.proofs.Unfolds.{looked_tree}
use Rattle.calculus_unfolding.specs.inner.Changes.{arm_changed, expression_changed, first_changed, if_found, part_changed, two_changed}
use Rattle.calculus_unfolding.proofs.Changes.{arm_trees, arms_are, map_if_found, map_twice, parts_are, three_mapped, trees, two_mapped}

-- one level of an expression, of the forms in which not all fields are lent
layer_of : (e : Expr) (layer : Expr-F Expr) → roll-Expr layer ≡ e → out-Expr e ≡ layer
layer_of e layer is = ap out-Expr (sym is) ∙ out-roll-Expr layer

pub con_layer : (c : ℕ) (es : List Expr) → out-Expr (expr.Con c es) ≡ Expr-F.Con c es
con_layer c es = layer_of _ (Expr-F.Con c es) (expr.rolls-Con c es)

pub prim_layer : (op : Op) (ty : Ty) (es : List Expr) → out-Expr (expr.Prim op ty es) ≡ Expr-F.Prim op ty es
prim_layer op ty es = layer_of _ (Expr-F.Prim op ty es) (expr.rolls-Prim op ty es)

pub index_layer : (n : ℕ) (v k : Expr) → out-Expr (expr.Index n v k) ≡ Expr-F.Index n v k
index_layer n v k = layer_of _ (Expr-F.Index n v k) (expr.rolls-Index n v k)

pub update_layer : (n : ℕ) (v k item : Expr) → out-Expr (expr.Update n v k item) ≡ Expr-F.Update n v k item
update_layer n v k item = layer_of _ (Expr-F.Update n v k item) (expr.rolls-Update n v k item)

pub case_layer : (e : Expr) (forms : Forms) (arms : List (PatC × Expr)) → out-Expr (expr.Case e forms arms) ≡ Expr-F.Case e forms arms
case_layer e forms arms = layer_of _ (Expr-F.Case e forms arms) (expr.rolls-Case e forms arms)

module _ (core : Core) where
  form : (e : Expr) (x : Expr-F Expr) (scope : ℕ) → roll-Expr x ≡ e
      → (looked core e).unfolded scope ≡ unfold_step core (map-Expr Expr (Looked Expr) (looked core) x) scope
  form e x scope is =
      ap (λ d. (looked core d).unfolded scope) (sym is)
      ∙ ap (λ (l : Looked Expr). l.unfolded scope) (fold-roll-Expr (Looked Expr) (look_step core) x)

  pub con_unfolded : (c : ℕ) (es : List Expr) (scope : ℕ)
      → expression_changed core scope (expr.Con c es) ≡ option_map (expr.Con c) (first_changed (expression_changed core scope) es)
  con_unfolded c es scope = form _ (Expr-F.Con c es) scope (expr.rolls-Con c es) ∙ ap (option_map (expr.Con c)) (parts_are core es scope)

  pub tuple_unfolded : (es : List Expr) (scope : ℕ)
      → expression_changed core scope (expr.Tuple es) ≡ option_map expr.Tuple (first_changed (expression_changed core scope) es)
  tuple_unfolded es scope = form _ (Expr-F.Tuple es) scope (expr.rolls-Tuple es) ∙ ap (option_map expr.Tuple) (parts_are core es scope)

  pub vect_unfolded : (es : List Expr) (scope : ℕ)
      → expression_changed core scope (expr.Vect es) ≡ option_map expr.Vect (first_changed (expression_changed core scope) es)
  vect_unfolded es scope = form _ (Expr-F.Vect es) scope (expr.rolls-Vect es) ∙ ap (option_map expr.Vect) (parts_are core es scope)

  pub prim_unfolded : (op : Op) (ty : Ty) (es : List Expr) (scope : ℕ)
      → expression_changed core scope (expr.Prim op ty es) ≡ option_map (expr.Prim op ty) (first_changed (expression_changed core scope) es)
  prim_unfolded op ty es scope = form _ (Expr-F.Prim op ty es) scope (expr.rolls-Prim op ty es) ∙ ap (option_map (expr.Prim op ty)) (parts_are core es scope)

  pub call_becomes : (f : ℕ) (es : List Expr) (scope : ℕ)
      → expression_changed core scope (expr.Call f es)
      ≡ option_or (call_unfolded core f es scope) (option_map (expr.Call f) (first_changed (expression_changed core scope) es))
  call_becomes f es scope =
      form _ (Expr-F.Call f es) scope (expr.rolls-Call f es)
      ∙ (λ i. option_or (call_unfolded core f (trees core es i) scope) (option_map (expr.Call f) (parts_are core es scope i)))

  pub case_unfolded : (e : Expr) (forms : Forms) (arms : List (PatC × Expr)) (scope : ℕ)
      → expression_changed core scope (expr.Case e forms arms)
      ≡ option_map (λ parts. expr.Case parts.0 forms parts.1)
      (two_changed (expression_changed core scope) (first_changed (arm_changed (expression_changed core) scope)) (e, arms))
  case_unfolded e forms arms scope =
      form _ (Expr-F.Case e forms arms) scope (expr.rolls-Case e forms arms)
      ∙ (λ i. option_or (option_map (λ d. expr.Case d forms (arm_trees (looked core) (looked_tree core) arms i)) (expression_changed core scope e))
      (option_map (expr.Case (looked_tree core e i) forms) (arms_are (looked core) (looked_tree core) arms scope i)))
      ∙ sym (two_mapped (expression_changed core scope) (first_changed (arm_changed (expression_changed core) scope))
      (λ parts. expr.Case parts.0 forms parts.1) e arms)

  pub let_unfolded : (e body : Expr) (scope : ℕ)
      → expression_changed core scope (expr.Let e body)
      ≡ option_map (λ parts. expr.Let parts.0 parts.1)
      (two_changed (expression_changed core scope) (expression_changed core (scope + 1)) (e, body))
  let_unfolded e body scope =
      form _ (Expr-F.Let e body) scope (expr.rolls-Let e body)
      ∙ (λ i. option_or (option_map (λ d. expr.Let d (looked_tree core body i)) (expression_changed core scope e))
      (option_map (expr.Let (looked_tree core e i)) (expression_changed core (scope + 1) body)))
      ∙ sym (two_mapped (expression_changed core scope) (expression_changed core (scope + 1)) (λ parts. expr.Let parts.0 parts.1) e body)

  pub index_unfolded : (n : ℕ) (v k : Expr) (scope : ℕ)
      → expression_changed core scope (expr.Index n v k)
      ≡ option_map (λ parts. expr.Index n parts.0 parts.1) (two_changed (expression_changed core scope) (expression_changed core scope) (v, k))
  index_unfolded n v k scope =
      form _ (Expr-F.Index n v k) scope (expr.rolls-Index n v k)
      ∙ (λ i. option_or (option_map (λ d. expr.Index n d (looked_tree core k i)) (expression_changed core scope v))
      (option_map (expr.Index n (looked_tree core v i)) (expression_changed core scope k)))
      ∙ sym (two_mapped (expression_changed core scope) (expression_changed core scope) (λ parts. expr.Index n parts.0 parts.1) v k)

  pub update_unfolded : (n : ℕ) (v k item : Expr) (scope : ℕ)
      → expression_changed core scope (expr.Update n v k item)
      ≡ option_map (λ parts. expr.Update n parts.0 parts.1.0 parts.1.1)
      (two_changed (expression_changed core scope) (two_changed (expression_changed core scope) (expression_changed core scope)) (v, (k, item)))
  update_unfolded n v k item scope =
      form _ (Expr-F.Update n v k item) scope (expr.rolls-Update n v k item)
      ∙ (λ i. option_or (option_map (λ d. expr.Update n d (looked_tree core k i) (looked_tree core item i)) (expression_changed core scope v))
      (option_or (option_map (λ d. expr.Update n (looked_tree core v i) d (looked_tree core item i)) (expression_changed core scope k))
      (option_map (expr.Update n (looked_tree core v i) (looked_tree core k i)) (expression_changed core scope item))))
      ∙ sym (three_mapped (expression_changed core scope) (expression_changed core scope) (expression_changed core scope)
      (λ parts. expr.Update n parts.0 parts.1.0 parts.1.1) v k item)

  pub if_unfolded : (t a b : Expr) (scope : ℕ)
      → expression_changed core scope (expr.If t a b)
      ≡ option_map (λ parts. expr.If parts.0 parts.1.0 parts.1.1)
      (two_changed (expression_changed core scope) (two_changed (expression_changed core scope) (expression_changed core scope)) (t, (a, b)))
  if_unfolded t a b scope =
      form _ (Expr-F.If t a b) scope (expr.rolls-If t a b)
      ∙ (λ i. option_or (option_map (λ d. expr.If d (looked_tree core a i) (looked_tree core b i)) (expression_changed core scope t))
      (option_or (option_map (λ d. expr.If (looked_tree core t i) d (looked_tree core b i)) (expression_changed core scope a))
      (option_map (expr.If (looked_tree core t i) (looked_tree core a i)) (expression_changed core scope b))))
      ∙ sym (three_mapped (expression_changed core scope) (expression_changed core scope) (expression_changed core scope)
      (λ parts. expr.If parts.0 parts.1.0 parts.1.1) t a b)

  pub raise_unfolded : (exn : ℕ) (part : Option Expr) (scope : ℕ)
      → expression_changed core scope (expr.Raise exn part) ≡ option_map (expr.Raise exn) (part_changed core scope part)
  raise_unfolded exn None scope = form _ (Expr-F.Raise exn None) scope (expr.rolls-Raise exn None)
  raise_unfolded exn (Some e) scope =
      form _ (Expr-F.Raise exn (Some e)) scope (expr.rolls-Raise exn (Some e)) ∙ sym (map_twice Some (expr.Raise exn) (expression_changed core scope e))

  -- so an expression becomes what its parts do
  pub con_found : (c : ℕ) (es ds : List Expr) (scope : ℕ) (found : Bool) → first_changed (expression_changed core scope) es ≡ if_found found ds
      → expression_changed core scope (expr.Con c es) ≡ if_found found (expr.Con c ds)
  con_found c es ds scope found is = con_unfolded c es scope ∙ ap (option_map (expr.Con c)) is ∙ map_if_found (expr.Con c) found ds

  pub tuple_found : (es ds : List Expr) (scope : ℕ) (found : Bool) → first_changed (expression_changed core scope) es ≡ if_found found ds
      → expression_changed core scope (expr.Tuple es) ≡ if_found found (expr.Tuple ds)
  tuple_found es ds scope found is = tuple_unfolded es scope ∙ ap (option_map expr.Tuple) is ∙ map_if_found expr.Tuple found ds

  pub vect_found : (es ds : List Expr) (scope : ℕ) (found : Bool) → first_changed (expression_changed core scope) es ≡ if_found found ds
      → expression_changed core scope (expr.Vect es) ≡ if_found found (expr.Vect ds)
  vect_found es ds scope found is = vect_unfolded es scope ∙ ap (option_map expr.Vect) is ∙ map_if_found expr.Vect found ds

  pub prim_found : (op : Op) (ty : Ty) (es ds : List Expr) (scope : ℕ) (found : Bool)
      → first_changed (expression_changed core scope) es ≡ if_found found ds
      → expression_changed core scope (expr.Prim op ty es) ≡ if_found found (expr.Prim op ty ds)
  prim_found op ty es ds scope found is = prim_unfolded op ty es scope ∙ ap (option_map (expr.Prim op ty)) is ∙ map_if_found (expr.Prim op ty) found ds

  pub case_found : (e d : Expr) (forms : Forms) (arms new : List (PatC × Expr)) (scope : ℕ) (found : Bool)
      → two_changed (expression_changed core scope) (first_changed (arm_changed (expression_changed core) scope)) (e, arms) ≡ if_found found (d, new)
      → expression_changed core scope (expr.Case e forms arms) ≡ if_found found (expr.Case d forms new)
  case_found e d forms arms new scope found is =
      case_unfolded e forms arms scope ∙ ap (option_map (λ parts. expr.Case parts.0 forms parts.1)) is
      ∙ map_if_found (λ parts. expr.Case parts.0 forms parts.1) found (d, new)

  pub let_found : (e d body new : Expr) (scope : ℕ) (found : Bool)
      → two_changed (expression_changed core scope) (expression_changed core (scope + 1)) (e, body) ≡ if_found found (d, new)
      → expression_changed core scope (expr.Let e body) ≡ if_found found (expr.Let d new)
  let_found e d body new scope found is =
      let_unfolded e body scope ∙ ap (option_map (λ parts. expr.Let parts.0 parts.1)) is ∙ map_if_found (λ parts. expr.Let parts.0 parts.1) found (d, new)

  pub index_found : (n : ℕ) (v k w j : Expr) (scope : ℕ) (found : Bool)
      → two_changed (expression_changed core scope) (expression_changed core scope) (v, k) ≡ if_found found (w, j)
      → expression_changed core scope (expr.Index n v k) ≡ if_found found (expr.Index n w j)
  index_found n v k w j scope found is =
      index_unfolded n v k scope ∙ ap (option_map (λ parts. expr.Index n parts.0 parts.1)) is
      ∙ map_if_found (λ parts. expr.Index n parts.0 parts.1) found (w, j)

  pub update_found : (n : ℕ) (v k item w j new : Expr) (scope : ℕ) (found : Bool)
      → two_changed (expression_changed core scope) (two_changed (expression_changed core scope) (expression_changed core scope)) (v, (k, item))
      ≡ if_found found (w, (j, new))
      → expression_changed core scope (expr.Update n v k item) ≡ if_found found (expr.Update n w j new)
  update_found n v k item w j new scope found is =
      update_unfolded n v k item scope ∙ ap (option_map (λ parts. expr.Update n parts.0 parts.1.0 parts.1.1)) is
      ∙ map_if_found (λ parts. expr.Update n parts.0 parts.1.0 parts.1.1) found (w, (j, new))

  pub choice_found : (t a b u d e : Expr) (scope : ℕ) (found : Bool)
      → two_changed (expression_changed core scope) (two_changed (expression_changed core scope) (expression_changed core scope)) (t, (a, b))
      ≡ if_found found (u, (d, e))
      → expression_changed core scope (expr.If t a b) ≡ if_found found (expr.If u d e)
  choice_found t a b u d e scope found is =
      if_unfolded t a b scope ∙ ap (option_map (λ parts. expr.If parts.0 parts.1.0 parts.1.1)) is
      ∙ map_if_found (λ parts. expr.If parts.0 parts.1.0 parts.1.1) found (u, (d, e))

pub ruleset form_steps = (common_steps, map_if_found, tuple_found, vect_found, call_becomes, let_found, choice_found, raise_unfolded)
