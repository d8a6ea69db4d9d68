-- Boxes whose rules have the same positions, and give the same wherever they fit, fire alike in every order.
use Rattle.std.proofs.Common.{◌≡◌, ℕ, ◌==◌, true, List, Option, Some, None, slice_get, refl, ap, sym, ◌∙◌}
use Rattle.std.specs.List.{find}
use Rattle.std.specs.Option.{option_and_then, option_map}
use Rattle.std.proofs.lemmas.List.Folds.{find_at}
use Rattle.hume_base.specs.declared.types.Value.{Value}
use Rattle.hume_base.proofs.Tables.{find_passes}
use Rattle.hume_model.specs.declared.core_tree.HandC.{HandC}
use Rattle.hume_model.specs.declared.core_tree.RuleC.{RuleC}
use Rattle.hume_model.specs.declared.core_tree.BoxC.{BoxC}
use Rattle.hume_model.specs.declared.core_tree.Core.{Core}
use Rattle.hume_model.specs.declared.outcome.Outputs.{Outputs}
use Rattle.hume_model.specs.declared.outcome.Outputs.TheVariants.{Asserts, Throws}
use Rattle.hume_model.specs.Matching.{bound, fits, taken_at}
use Rattle.hume_model.specs.Results.{result_of}
use Rattle.hume_model.specs.Firing.{fire, firing_of, handled, handled_by, handler_env, outputs_or_none, rule_fits}
use Rattle.calculus_laws.proofs.ChangedBox.{BothAt}

-- two rules with the same positions that give the same wherever they fit
pub record SameRules (core new : Core) (rule other : RuleC) : Type 0 where
  pub pats : other.pats ≡ rule.pats
  pub gives : (ins : List (Option Value)) → fits rule.pats ins ≡ true
      → result_of new (bound rule.pats ins) other.result ≡ result_of core (bound rule.pats ins) rule.result

module _ (core new : Core) (handlers : List HandC)
    (same : (number : ℕ) (handler : HandC) → slice_get handlers number ≡ Some handler → (env : List Value) → result_of new env handler.result ≡ result_of core env handler.result) where
  found_same : (carried : Option Value) (o : Option HandC) → ((handler : HandC) → o ≡ Some handler → (env : List Value) → result_of new env handler.result ≡ result_of core env handler.result)
      → handled_by new carried o ≡ handled_by core carried o
  found_same carried None each = refl
  found_same carried (Some handler) each = ap outputs_or_none (each handler refl (handler_env handler carried))

  pub handled_same : (outs : Outputs) → handled new handlers outs ≡ handled core handlers outs
  handled_same (Asserts outs) = refl
  handled_same (Throws exn carried) =
      let test = λ (handler : HandC). handler.exn == exn in
      found_same carried (find test handlers) (λ handler found. same _ handler (sym (find_at test handlers) ∙ found))

module _ (core new : Core) (b c : BoxC) (ins : List (Option Value))
    (rules : (n : ℕ) → BothAt (SameRules core new) (slice_get b.rules n) (slice_get c.rules n))
    (handle : (outs : Outputs) → handled new c.handlers outs ≡ handled core b.handlers outs) where
  fit_at : (o p : Option RuleC) → BothAt (SameRules core new) o p → rule_fits ins p ≡ rule_fits ins o
  fit_at None None same = refl
  fit_at None (Some y) same = absurd same
  fit_at (Some x) None same = absurd same
  fit_at (Some x) (Some y) same = ap (λ pats. fits pats ins) same.pats

  firing_at : (n : ℕ) (o p : Option RuleC) → BothAt (SameRules core new) o p → rule_fits ins o ≡ true
      → option_map (firing_of new c n ins) p ≡ option_map (firing_of core b n ins) o
  firing_at n None p same fit = cc
  firing_at n (Some x) None same fit = absurd same
  firing_at n (Some x) (Some y) same fit =
      let outs : handled new c.handlers (result_of new (bound y.pats ins) y.result) ≡ handled core b.handlers (result_of core (bound x.pats ins) x.result) =
      ap (λ pats. handled new c.handlers (result_of new (bound pats ins) y.result)) same.pats
      ∙ handle (result_of new (bound x.pats ins) y.result)
      ∙ ap (handled core b.handlers) (same.gives ins fit) in
      λ i. Some (record { rule = n; taken = taken_at (same.pats i) ins; outs = outs i })

  found_at : (o : Option ℕ) → ((n : ℕ) → o ≡ Some n → rule_fits ins (slice_get b.rules n) ≡ true)
      → option_and_then (λ n. option_map (firing_of new c n ins) (slice_get c.rules n)) o
      ≡ option_and_then (λ n. option_map (firing_of core b n ins) (slice_get b.rules n)) o
  found_at None fit = refl
  found_at (Some n) fit = firing_at n (slice_get b.rules n) (slice_get c.rules n) (rules n) (fit n refl)

  pub fire_same : (order : List ℕ) → fire new c order ins ≡ fire core b order ins
  fire_same order =
      let test = λ (n : ℕ). rule_fits ins (slice_get b.rules n) in
      (λ i. option_and_then (λ n. option_map (firing_of new c n ins) (slice_get c.rules n))
      (find (λ (n : ℕ). fit_at (slice_get b.rules n) (slice_get c.rules n) (rules n) i) order))
      ∙ found_at (find test order) (λ n found. find_passes test order n found)
