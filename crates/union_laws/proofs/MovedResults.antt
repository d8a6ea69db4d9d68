-- A moved result gives what the result gives, or raises the exception of the moved number.
use Rattle.std.proofs.Common.{◌≡◌, ℕ, ◌==◌, Bool, true, false, if◌then◌else◌, List, [], ◌∷◌, ◌++◌, map, Option, Some, None, refl, ap, ◌∙◌}
use Rattle.std.specs.List.{list_all}
use Rattle.std.specs.Option.{option_map}
use Rattle.std.proofs.lemmas.Bool.{and_parts}
use Rattle.hume_base.specs.declared.types.Value.{Value}
use Rattle.hume_base.specs.Flat.{word_of_value}
use Rattle.hume_model.specs.declared.core_tree.PatC.{PatC}
use Rattle.hume_model.specs.declared.core_tree.Expr.{Expr}
use Rattle.hume_model.specs.declared.core_tree.Res.{Res, map-Res}
use Rattle.hume_model.specs.declared.core_tree.Res.TheOpen.{Res-F}
use Rattle.hume_model.specs.declared.core_tree.Core.{Core}
use Rattle.hume_model.specs.declared.outcome.Outcome.{Outcome}
use Rattle.hume_model.specs.declared.outcome.Outcome.TheVariants.{Gives, Raises}
use Rattle.hume_model.specs.declared.outcome.Outputs.{Outputs}
use Rattle.hume_model.specs.declared.outcome.Outputs.TheVariants.{Asserts, Throws}
use Rattle.hume_model.specs.Calls.{calls_below}
use Rattle.hume_model.specs.Outcomes.{after_outputs, on_match, outs_in_order, raised, then_outputs, then_outs, thrown}
use Rattle.hume_model.specs.Patterns.{matches}
use Rattle.hume_model.specs.Results.{ResultMeaning, first_result, meaning_in, result_of, result_step}
use Rattle.union_laws.specs.declared.moves.Moves.{Moves}
use Rattle.union_laws.specs.Moving.{moved, moved_exn, moved_result, moved_result_layer}
use Rattle.union_laws.specs.inner.Outcomes.{moved_outcome, moved_outputs}
use Rattle.union_laws.specs.inner.ResultCalls.{known_in, out_calls, result_calls}
use Rattle.union_laws.proofs.MovedResultFolds.{moved_result_same}

module _ (moves : Moves) (bound : ℕ) (small large : Core)
    (means : (e : Expr) → calls_below bound e ≡ true → (env : List Value) → meaning_in large (moved moves e) env ≡ moved_outcome moves (meaning_in small e env)) where
  abbrev outs_of : Outputs → Outputs
  outs_of = moved_outputs moves

  abbrev like : ResultMeaning → ResultMeaning
  like meaning env = outs_of (meaning env)

  then_same : (o : Outcome) (go other : Value → Outputs) → ((v : Value) → other v ≡ outs_of (go v)) → then_outputs (moved_outcome moves o) other ≡ outs_of (then_outputs o go)
  then_same (Gives v) go other same = same v
  then_same (Raises exn carried) go other same = refl

  after_same : (outs : List (Option Value)) (o : Outputs) → after_outputs outs (outs_of o) ≡ outs_of (after_outputs outs o)
  after_same outs (Asserts more) = refl
  after_same outs (Throws exn carried) = refl

  out_same : (o : Outcome) (rest : Outputs) → then_outs (moved_outcome moves o) (outs_of rest) ≡ outs_of (then_outs o rest)
  out_same (Gives v) rest = after_same (Some v ∷ []) rest
  out_same (Raises exn carried) rest = refl

  outs_same : (outs : List (Option Expr)) → list_all (out_calls bound) outs ≡ true → (env : List Value)
      → outs_in_order (map (option_map (meaning_in large)) (map (option_map (moved moves)) outs)) env
      ≡ outs_of (outs_in_order (map (option_map (meaning_in small)) outs) env)
  outs_same [] known env = refl
  outs_same (None ∷ outs) known env =
      ap (after_outputs (None ∷ [])) (outs_same outs known env) ∙ after_same (None ∷ []) (outs_in_order (map (option_map (meaning_in small)) outs) env)
  outs_same (Some e ∷ outs) known env =
      let both = and_parts (calls_below bound e) (list_all (out_calls bound) outs) known in
      (λ i. then_outs (means e both.0 env i) (outs_same outs both.1 env i))
      ∙ out_same (meaning_in small e env) (outs_in_order (map (option_map (meaning_in small)) outs) env)

  match_same : (o : Option (List Value)) (go other : List Value → Outputs) (x y : Outputs) → ((vs : List Value) → other vs ≡ outs_of (go vs)) → y ≡ outs_of x
      → on_match o other y ≡ outs_of (on_match o go x)
  match_same None go other x y same none = none
  match_same (Some vs) go other x y same none = same vs

  abbrev arm_like : PatC × ResultMeaning → PatC × ResultMeaning
  arm_like arm = (arm.0, like arm.1)

  arms_same : (arms : List (PatC × ResultMeaning)) (v : Value) (env : List Value) → first_result (map arm_like arms) v env ≡ outs_of (first_result arms v env)
  arms_same [] v env = refl
  arms_same (arm ∷ arms) v env =
      match_same (matches arm.0 v) (λ vs. arm.1 (env ++ vs)) (λ vs. outs_of (arm.1 (env ++ vs))) (first_result arms v env) (first_result (map arm_like arms) v env)
      (λ vs. refl) (arms_same arms v env)

  truth_same : (a b : Outputs) (zero : Bool) → (if zero then outs_of a else outs_of b) ≡ outs_of (if zero then a else b)
  truth_same a b true = refl
  truth_same a b false = refl

  thrown_same : (exn : ℕ) (o : Outcome) → thrown (raised (moved_exn moves exn) (Some (λ (env : List Value). moved_outcome moves o)) []) ≡ outs_of (thrown (raised exn (Some (λ (env : List Value). o)) []))
  thrown_same exn (Gives v) = refl
  thrown_same exn (Raises other carried) = refl

  level_same : (y : Res-F ResultMeaning) → known_in bound y ≡ true → (env : List Value)
      → result_step (meaning_in large) (moved_result_layer moves (map-Res ResultMeaning ResultMeaning like y)) env ≡ outs_of (result_step (meaning_in small) y env)
  level_same (Res-F.Outs outs) known env = outs_same outs known env
  level_same (Res-F.If t a b) known env =
      ap (λ o. then_outputs o (λ v. if word_of_value v == 0 then outs_of (b env) else outs_of (a env))) (means t known env)
      ∙ then_same (meaning_in small t env) (λ v. if word_of_value v == 0 then b env else a env) (λ v. if word_of_value v == 0 then outs_of (b env) else outs_of (a env))
      (λ v. truth_same (b env) (a env) (word_of_value v == 0))
  level_same (Res-F.Case e forms arms) known env =
      ap (λ o. then_outputs o (λ v. first_result (map arm_like arms) v env)) (means e known env)
      ∙ then_same (meaning_in small e env) (λ v. first_result arms v env) (λ v. first_result (map arm_like arms) v env) (λ v. arms_same arms v env)
  level_same (Res-F.Let e b) known env =
      ap (λ o. then_outputs o (λ v. outs_of (b (env ++ v ∷ [])))) (means e known env)
      ∙ then_same (meaning_in small e env) (λ v. b (env ++ v ∷ [])) (λ v. outs_of (b (env ++ v ∷ []))) (λ v. refl)
  level_same (Res-F.Raise x None) known env = refl
  level_same (Res-F.Raise x (Some e)) known env =
      ap (λ o. thrown (raised (moved_exn moves x) (Some (λ (vs : List Value). o)) [])) (means e known env) ∙ thrown_same x (meaning_in small e env)

  pub result_means : (r : Res) → result_calls bound r ≡ true → (env : List Value) → result_of large env (moved_result moves r) ≡ outs_of (result_of small env r)
  result_means r known env =
      ap (λ (m : ResultMeaning). m env)
      (moved_result_same ResultMeaning (result_step (meaning_in small)) (result_step (meaning_in large)) like moves bound
      (λ y exprs. λ i vs. level_same y exprs vs i) r known)
