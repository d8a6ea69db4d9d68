-- A result with an unfolded call means what it meant.
use Rattle.std.proofs.Common.{◌≡◌, ℕ, ◌==◌, List, [], ◌∷◌, ◌++◌, map, length, Option, Some, None, refl, ap, sym, ◌∙◌, if◌then◌else◌}
use Rattle.std.specs.Option.{option_map}
use Rattle.hume_base.specs.declared.types.Value.{Value}
use Rattle.hume_base.specs.Flat.{word_of_value}
use Rattle.hume_model.specs.declared.core_tree.PatC.{PatC}
use Rattle.hume_model.specs.declared.core_tree.Expr.{Expr}
use Rattle.hume_model.specs.declared.core_tree.Res.{Res}
use Rattle.hume_model.specs.declared.core_tree.Core.{Core}
use Rattle.hume_model.specs.declared.outcome.Outcome.TheVariants.{Raises}
use Rattle.hume_model.specs.Calls.{CallsGoDown}
use Rattle.hume_model.specs.Outcomes.{after_outputs, and_then, on_match, outs_in_order, then_outputs, then_outs, thrown}
use Rattle.hume_model.specs.Patterns.{matches}
use Rattle.hume_model.specs.Results.{first_result, meaning_in, result_of}
use Rattle.hume_model.specs.inner.Arms.{result_arm_with}
use Rattle.hume_model.proofs.ResultTypes.{result-case, result-if, result-let, result-outs, result-raise}
use Rattle.calculus_laws.specs.Unfolding.{result_unfolded, variables_in}
use Rattle.calculus_laws.proofs.PatternCounts.{match_count}
use Rattle.calculus_laws.proofs.UnfoldedMeaning.{MeansSame, longer, matched_same, means_kept}
use Rattle.calculus_laws.proofs.UnfoldedResults.{IsResultKept, OutChanged, result_holds}
use Rattle.calculus_laws.proofs.Unfolds.{ArmChanged, Becomes, OneChanged}

module _ (core : Core) (down : CallsGoDown core) where
  abbrev Same : ℕ → Expr → Expr → Type 0
  Same = MeansSame core down

  abbrev pub GivesSame : ℕ → Res → Res → Type 0
  GivesSame scope r s = (env : List Value) → length env ≡ scope → result_of core env s ≡ result_of core env r

  one_out : {scope : ℕ} {outs others : List (Option Expr)} → OneChanged (OutChanged Same scope) outs others → (env : List Value) → length env ≡ scope
      → outs_in_order (map (option_map (meaning_in core)) others) env ≡ outs_in_order (map (option_map (meaning_in core)) outs) env
  one_out (OneChanged.here {x = None} {y = other} r) env is = absurd r
  one_out (OneChanged.here {x = Some e} {y = None} r) env is = absurd r
  one_out (OneChanged.here {x = Some e} {y = Some d} {xs = rest} r) env is =
      ap (λ o. then_outs o (outs_in_order (map (option_map (meaning_in core)) rest) env)) (r env is)
  one_out (OneChanged.there {x = None} rest) env is = ap (after_outputs (None ∷ [])) (one_out rest env is)
  one_out (OneChanged.there {x = Some e} rest) env is = ap (then_outs (meaning_in core e env)) (one_out rest env is)

  one_arm : {scope : ℕ} {arms others : List (PatC × Res)} → OneChanged (ArmChanged GivesSame scope) arms others → (v : Value) (env : List Value) → length env ≡ scope
      → first_result (map (result_arm_with (λ r env. result_of core env r)) others) v env ≡ first_result (map (result_arm_with (λ r env. result_of core env r)) arms) v env
  one_arm {scope = scope} (OneChanged.here {x = arm} {y = other} {xs = rest} r) v env is =
      ap (λ p. on_match (matches p v) (λ vs. result_of core (env ++ vs) other.1) (first_result (map (result_arm_with (λ r env. result_of core env r)) rest) v env)) (sym r.0)
      ∙ matched_same (matches arm.0 v) (λ vs. result_of core (env ++ vs) arm.1) (λ vs. result_of core (env ++ vs) other.1) _ _
      (λ vs matched. r.1 (env ++ vs) (longer env vs scope (variables_in arm.0) is (match_count arm.0 v vs matched))) refl
  one_arm (OneChanged.there {x = arm} rest) v env is =
      ap (on_match (matches arm.0 v) (λ vs. result_of core (env ++ vs) arm.1)) (one_arm rest v env is)

  results_kept : IsResultKept Same GivesSame
  results_kept = record {
    outs = λ scope outs others one env is. result-outs core env others ∙ one_out one env is ∙ sym (result-outs core env outs);
    test = λ scope e d a b r env is.
        result-if core env d a b
        ∙ ap (λ o. then_outputs o (λ v. if word_of_value v == 0 then result_of core env b else result_of core env a)) (r env is)
        ∙ sym (result-if core env e a b);
    when_true = λ scope e a b other r env is.
        result-if core env e other b
        ∙ (λ i. then_outputs (meaning_in core e env) (λ v. if word_of_value v == 0 then result_of core env b else r env is i))
        ∙ sym (result-if core env e a b);
    when_false = λ scope e a b other r env is.
        result-if core env e a other
        ∙ (λ i. then_outputs (meaning_in core e env) (λ v. if word_of_value v == 0 then r env is i else result_of core env a))
        ∙ sym (result-if core env e a b);
    of_case = λ scope e d forms arms r env is.
        result-case core env d forms arms
        ∙ ap (λ o. then_outputs o (λ v. first_result (map (result_arm_with (λ r env. result_of core env r)) arms) v env)) (r env is)
        ∙ sym (result-case core env e forms arms);
    arm = λ scope e forms arms others one env is.
        result-case core env e forms others ∙ (λ i. then_outputs (meaning_in core e env) (λ v. one_arm one v env is i)) ∙ sym (result-case core env e forms arms);
    of_let = λ scope e d body r env is.
        result-let core env d body ∙ ap (λ o. then_outputs o (λ v. result_of core (env ++ v ∷ []) body)) (r env is) ∙ sym (result-let core env e body);
    body = λ scope e body other r env is.
        result-let core env e other
        ∙ (λ i. then_outputs (meaning_in core e env) (λ v. r (env ++ v ∷ []) (longer env (v ∷ []) scope 1 is refl) i))
        ∙ sym (result-let core env e body);
    raise = λ scope x e d r env is.
        result-raise core env x (Some d) ∙ ap (λ o. thrown (and_then o (λ v. Raises x (Some v)))) (r env is) ∙ sym (result-raise core env x (Some e));
  }

  -- the result of a rule with so many variables gives the same in each environment of as many values
  pub unfolded_gives : (r : Res) (scope : ℕ) → Becomes (GivesSame scope r) (result_unfolded core scope r)
  unfolded_gives r scope = result_holds core Same (means_kept core down) GivesSame results_kept r scope
