-- An expression with an unfolded call means what it meant.
use Rattle.std.proofs.Common.{◌≡◌, ℕ, ◌+◌, ◌==◌, List, [], ◌∷◌, ◌++◌, map, length, Option, Some, None, refl, ap, sym, ◌∙◌, subst, arith, if◌then◌else◌}
use Rattle.std.proofs.lemmas.List.{length-append}
use Rattle.hume_base.specs.declared.types.Value.{Value}
use Rattle.hume_base.specs.declared.types.Value.TheVariants as value
use Rattle.hume_base.specs.Flat.{word_of_value}
use Rattle.hume_model.specs.declared.core_tree.PatC.{PatC}
use Rattle.hume_model.specs.declared.core_tree.Expr.{Expr}
use Rattle.hume_model.specs.declared.core_tree.Expr.TheVariants as expr
use Rattle.hume_model.specs.declared.core_tree.Core.{Core}
use Rattle.hume_model.specs.declared.outcome.Outcome.{Outcome}
use Rattle.hume_model.specs.declared.outcome.Outcome.TheVariants.{Gives, Raises}
use Rattle.hume_model.specs.Calls.{CallsGoDown}
use Rattle.hume_model.specs.Outcomes.{Meaning, and_then, in_order, on_match, then_rest, with_all}
use Rattle.hume_model.specs.Operations.{item_of, prim, updated}
use Rattle.hume_model.specs.Patterns.{matches}
use Rattle.hume_model.specs.Meaning.{Calls, call_below, eval_with, first_arm}
use Rattle.hume_model.specs.inner.Arms.{arm_with}
use Rattle.hume_model.proofs.Layers as layer
use Rattle.calculus_laws.specs.Unfolding.{call_unfolded, variables_in}
use Rattle.calculus_laws.proofs.PatternCounts.{match_count}
use Rattle.calculus_laws.proofs.UnfoldedCalls.{call_means}
use Rattle.calculus_laws.proofs.Unfolds.{ArmChanged, Becomes, IsKept, OneChanged}

pub matched_same : {X : Type 0} (o : Option (List Value)) (go new : List Value → X) (other others : X) → ((vs : List Value) → o ≡ Some vs → new vs ≡ go vs) → others ≡ other
    → on_match o new others ≡ on_match o go other
matched_same None go new other others same rest = rest
matched_same (Some vs) go new other others same rest = same vs refl

pub longer : (env vs : List Value) (scope count : ℕ) → length env ≡ scope → length vs ≡ count → length (env ++ vs) ≡ scope + count
longer env vs scope count one two = (let all = length-append env vs in omega (arith, all, one, two))

module _ (core : Core) (down : CallsGoDown core) where
  abbrev pub calls : Calls
  calls = call_below core (length core.funs)

  abbrev pub meaning : Expr → Meaning
  meaning = eval_with calls

  -- the same in each environment of so many values
  abbrev pub MeansSame : ℕ → Expr → Expr → Type 0
  MeansSame scope e d = (env : List Value) → length env ≡ scope → meaning d env ≡ meaning e env

  abbrev outcomes : List Expr → List Value → List Outcome
  outcomes es env = map (λ e. meaning e env) es

  one_outcome : {scope : ℕ} {es ds : List Expr} → OneChanged (MeansSame scope) es ds → (env : List Value) → length env ≡ scope → outcomes ds env ≡ outcomes es env
  one_outcome (OneChanged.here {xs = rest} r) env is = ap (λ o. o ∷ outcomes rest env) (r env is)
  one_outcome (OneChanged.there {x = e} rest) env is = ap (λ os. meaning e env ∷ os) (one_outcome rest env is)

  one_in_order : {scope : ℕ} {es ds : List Expr} → OneChanged (MeansSame scope) es ds → (env : List Value) → length env ≡ scope
      → in_order (map meaning ds) env ≡ in_order (map meaning es) env
  one_in_order (OneChanged.here {xs = rest} r) env is = ap (λ o. then_rest o (in_order (map meaning rest) env)) (r env is)
  one_in_order (OneChanged.there {x = e} rest) env is = ap (then_rest (meaning e env)) (one_in_order rest env is)

  one_arm : {scope : ℕ} {arms others : List (PatC × Expr)} → OneChanged (ArmChanged MeansSame scope) arms others → (v : Value) (env : List Value) → length env ≡ scope
      → first_arm (map (arm_with meaning) others) v env ≡ first_arm (map (arm_with meaning) arms) v env
  one_arm {scope = scope} (OneChanged.here {x = arm} {y = other} {xs = rest} r) v env is =
      ap (λ p. on_match (matches p v) (λ vs. meaning other.1 (env ++ vs)) (first_arm (map (arm_with meaning) rest) v env)) (sym r.0)
      ∙ matched_same (matches arm.0 v) (λ vs. meaning arm.1 (env ++ vs)) (λ vs. meaning other.1 (env ++ vs)) _ _
      (λ vs matched. r.1 (env ++ vs) (longer env vs scope (variables_in arm.0) is (match_count arm.0 v vs matched))) refl
  one_arm (OneChanged.there {x = arm} rest) v env is =
      ap (on_match (matches arm.0 v) (λ vs. meaning arm.1 (env ++ vs))) (one_arm rest v env is)

  at_length : (new : Option Expr) (scope f : ℕ) (args : List Expr) → ((env : List Value) → length env ≡ scope → Becomes (λ d. meaning d env ≡ meaning (expr.Call f args) env) new)
      → Becomes (MeansSame scope (expr.Call f args)) new
  at_length None scope f args each = tt
  at_length (Some d) scope f args each = each

  unfolds : (scope f : ℕ) (args : List Expr) → Becomes (MeansSame scope (expr.Call f args)) (call_unfolded core f args scope)
  unfolds scope f args =
      at_length (call_unfolded core f args scope) scope f args
      (λ env is. subst (λ n. Becomes (λ d. meaning d env ≡ meaning (expr.Call f args) env) (call_unfolded core f args n)) is (call_means core down f args env))

  pub means_kept : IsKept core MeansSame
  means_kept = record {
    unfolds = unfolds;
    con = λ scope c es ds one env is.
        layer.eval-con calls env c ds ∙ ap (λ s. with_all s (λ vs. Gives (value.Con c vs))) (one_in_order one env is) ∙ sym (layer.eval-con calls env c es);
    tuple = λ scope es ds one env is.
        layer.eval-tuple calls env ds ∙ ap (λ s. with_all s (λ vs. Gives (value.Tuple vs))) (one_in_order one env is) ∙ sym (layer.eval-tuple calls env es);
    vector = λ scope es ds one env is.
        layer.eval-vector calls env ds ∙ ap (λ s. with_all s (λ vs. Gives (value.Vector vs))) (one_in_order one env is) ∙ sym (layer.eval-vector calls env es);
    prim = λ scope op ty es ds one env is.
        layer.eval-prim calls env op ty ds ∙ ap (λ s. with_all s (prim op ty)) (one_in_order one env is) ∙ sym (layer.eval-prim calls env op ty es);
    call = λ scope f es ds one env is.
        layer.eval-call calls env f ds ∙ ap (λ s. with_all s (calls f)) (one_in_order one env is) ∙ sym (layer.eval-call calls env f es);
    index = λ scope n v k v' k' one env is.
        let same = one_outcome one env is in
        let first : meaning v' env ≡ meaning v env = cc in
        let second : meaning k' env ≡ meaning k env = cc in
        layer.eval-index calls env n v' k' ∙ (λ i. and_then (first i) (λ a. and_then (second i) (item_of n a))) ∙ sym (layer.eval-index calls env n v k);
    update = λ scope n v k e v' k' e' one env is.
        let same = one_outcome one env is in
        let first : meaning v' env ≡ meaning v env = cc in
        let second : meaning k' env ≡ meaning k env = cc in
        let third : meaning e' env ≡ meaning e env = cc in
        layer.eval-update calls env n v' k' e'
        ∙ (λ i. and_then (first i) (λ a. and_then (second i) (λ p. and_then (third i) (updated n a p))))
        ∙ sym (layer.eval-update calls env n v k e);
    choice = λ scope t a b t' a' b' one env is.
        let same = one_outcome one env is in
        let first : meaning t' env ≡ meaning t env = cc in
        let second : meaning a' env ≡ meaning a env = cc in
        let third : meaning b' env ≡ meaning b env = cc in
        layer.eval-choice calls env t' a' b'
        ∙ (λ i. and_then (first i) (λ v. if word_of_value v == 0 then third i else second i))
        ∙ sym (layer.eval-choice calls env t a b);
    of_case = λ scope e d forms arms r env is.
        layer.eval-case calls env d forms arms ∙ ap (λ o. and_then o (λ v. first_arm (map (arm_with meaning) arms) v env)) (r env is) ∙ sym (layer.eval-case calls env e forms arms);
    arm = λ scope e forms arms others one env is.
        layer.eval-case calls env e forms others ∙ (λ i. and_then (meaning e env) (λ v. one_arm one v env is i)) ∙ sym (layer.eval-case calls env e forms arms);
    of_let = λ scope e d body r env is.
        layer.eval-let calls env d body ∙ ap (λ o. and_then o (λ v. meaning body (env ++ v ∷ []))) (r env is) ∙ sym (layer.eval-let calls env e body);
    body = λ scope e body other r env is.
        layer.eval-let calls env e other ∙ (λ i. and_then (meaning e env) (λ v. r (env ++ v ∷ []) (longer env (v ∷ []) scope 1 is refl) i)) ∙ sym (layer.eval-let calls env e body);
    raise = λ scope x e d r env is.
        layer.eval-raise-some calls env x d ∙ ap (λ o. and_then o (λ v. Raises x (Some v))) (r env is) ∙ sym (layer.eval-raise-some calls env x e);
  }
