-- A rule with an unfolded call keeps every run.
use Rattle.std.proofs.Common.{◌≡◌, ℕ, true, List, length, Option, Some, None, slice_get, slice_set, refl, ap, sym, ◌∙◌, subst}
use Rattle.std.specs.Option.{option_and_then, option_map}
use Rattle.hume_base.specs.declared.types.Ty.{Ty}
use Rattle.hume_base.specs.declared.types.Value.{Value}
use Rattle.hume_model.specs.declared.core_tree.Expr.{Expr}
use Rattle.hume_model.specs.declared.core_tree.Res.{Res}
use Rattle.hume_model.specs.declared.core_tree.RuleC.{RuleC}
use Rattle.hume_model.specs.declared.core_tree.BoxC.{BoxC}
use Rattle.hume_model.specs.declared.core_tree.NodeC.TheVariants.{Rules}
use Rattle.hume_model.specs.declared.core_tree.Core.{Core}
use Rattle.hume_model.specs.BoxTyping.{PositionsAreTyped}
use Rattle.hume_model.specs.Matching.{bound, fits}
use Rattle.hume_model.specs.Results.{meaning_in, result_of}
use Rattle.hume_model.specs.Typing.{HasType}
use Rattle.hume_model.specs.WellFormed.{IsWellFormed}
use Rattle.calculus_laws.specs.Boxes.{box_at, with_box}
use Rattle.calculus_laws.specs.Naming.{variables}
use Rattle.calculus_laws.specs.Unfolding.{result_unfolded, unfolded_at, unfolded_rule, with_rule}
use Rattle.calculus_laws.proofs.Bindings.{rule_count, rule_types}
use Rattle.calculus_laws.proofs.ChangedBox.{box_there, length-set_node, related_at}
use Rattle.calculus_laws.proofs.Kept.{meaning_kept, result_kept}
use Rattle.calculus_laws.proofs.SameNets.{SameNets, SameNodes}
use Rattle.calculus_laws.proofs.SameRules.{SameRules}
use Rattle.calculus_laws.proofs.TypedNets.{own_node, own_rule, same_rules}
use Rattle.calculus_laws.proofs.UnfoldedResultMeaning.{GivesSame, unfolded_gives}
use Rattle.calculus_laws.proofs.Unfolds.{Becomes}

-- what is known of an unfolded rule
pub record IsUnfolded (core : Core) (b : BoxC) (number : ℕ) (new : RuleC) : Type 0 where
  pub rule : RuleC
  pub there : slice_get b.rules number ≡ Some rule
  pub result : Res
  pub unfolded : result_unfolded core (length (variables core.types b rule)) rule.result ≡ Some result
  pub is : new ≡ record rule { result = result }

pub is_unfolded : (core : Core) (b : BoxC) (number : ℕ) (new : RuleC) → unfolded_at core b number ≡ Some new → IsUnfolded core b number new
is_unfolded core b number new is = by (slice_get b.rules number) refl is
  where
    some : (rule : RuleC) → slice_get b.rules number ≡ Some rule → (o : Option Res) → result_unfolded core (length (variables core.types b rule)) rule.result ≡ o
        → option_map (λ result. record rule { result = result }) o ≡ Some new → IsUnfolded core b number new
    some rule there None unfolded same = cc
    some rule there (Some result) unfolded same =
        let whole : record rule { result = result } ≡ new = cc in
        record { rule = rule; there = there; result = result; unfolded = unfolded; is = sym whole }

    by : (o : Option RuleC) → slice_get b.rules number ≡ o → option_and_then (unfolded_rule core b) o ≡ Some new → IsUnfolded core b number new
    by None there same = cc
    by (Some rule) there same = some rule there (result_unfolded core (length (variables core.types b rule)) rule.result) refl same

pub becomes_some : {X : Type 0} (P : X → Type 0) (o : Option X) (x : X) → o ≡ Some x → Becomes P o → P x
becomes_some P o x is holds = subst (Becomes P) is holds

module _ (core : Core) (formed : IsWellFormed core) (n number : ℕ) (b : BoxC) (there : box_at core n ≡ Some b) (new_rule : RuleC)
    (is : IsUnfolded core b number new_rule) where
  abbrev other : BoxC
  other = with_rule number new_rule b

  abbrev new : Core
  new = with_box core n other

  at : slice_get core.nodes n ≡ Some (Rules b)
  at = box_there core n b there

  typed : PositionsAreTyped core.types b is.rule
  typed = (formed.frame.boxes n b at).positions number is.rule is.there

  bound_count : (ins : List (Option Value)) → fits is.rule.pats ins ≡ true → length (bound is.rule.pats ins) ≡ length (variables core.types b is.rule)
  bound_count ins fit = rule_count core.types typed.have ins fit ∙ ap length (sym (rule_types core.types typed.have))

  mean : (vars : List Ty) (e : Expr) (ty : Ty) → HasType core vars e ty → (env : List Value) → meaning_in new e env ≡ meaning_in core e env
  mean vars e ty have env = λ i. meaning_kept core new refl i e env

  same_results : (env : List Value) → length env ≡ length (variables core.types b is.rule) → result_of core env is.result ≡ result_of core env is.rule.result
  same_results =
      becomes_some (GivesSame core formed.calls (length (variables core.types b is.rule)) is.rule.result)
      (result_unfolded core (length (variables core.types b is.rule)) is.rule.result) is.result is.unfolded
      (unfolded_gives core formed.calls is.rule.result (length (variables core.types b is.rule)))

  same_rule : SameRules core new is.rule (record is.rule { result = is.result })
  same_rule = record {
    pats = refl;
    gives = λ ins fit.
        let env = bound is.rule.pats ins in
        result_kept core new refl env is.result ∙ same_results env (bound_count ins fit);
  }

  -- the core with the unfolded rule does what the old one did
  pub unfolded_same : SameNets core new
  unfolded_same =
      let own = formed.boxes n b at in
      record {
        wires = refl;
        count = length-set_node core.nodes n (Rules other);
        nodes = related_at (SameNodes core new) core.nodes (own_node core new mean formed) n (Rules b) (Rules other) at
            (same_rules core new mean b own (slice_set b.rules number new_rule)
            (related_at (SameRules core new) b.rules (own_rule core new mean b own) number is.rule new_rule is.there
            (subst (SameRules core new is.rule) (sym is.is) same_rule)));
      }
