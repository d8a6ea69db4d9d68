-- In a box that isn't fair and tries its rules as they are written, the first rule that fits fires.
use Rattle.std.proofs.Common.{◌≡◌, ℕ, suc, ◌+◌, Bool, true, false, cond, List, [], ◌∷◌, length, Option, Some, None, slice_get, refl, ap, sym, ◌∙◌, arith}
use Rattle.std.specs.List.{find, range_with_len}
use Rattle.std.specs.Option.{option_and_then, option_map}
use Rattle.hume_base.specs.declared.types.Value.{Value}
use Rattle.hume_model.specs.declared.core_tree.RuleC.{RuleC}
use Rattle.hume_model.specs.declared.core_tree.BoxC.{BoxC}
use Rattle.hume_model.specs.declared.core_tree.Core.{Core}
use Rattle.hume_model.specs.declared.outcome.Firing.{Firing}
use Rattle.hume_model.specs.Matching.{fits, taken_at, bound}
use Rattle.hume_model.specs.Results.{result_of}
use Rattle.hume_model.specs.Firing.{rule_fits, handled, firing_of, fire}

-- the rule fits the inputs
abbrev pub fits_rule : List (Option Value) → RuleC → Bool
fits_rule ins rule = fits rule.pats ins

-- the rule of the first number that fits is the first rule that fits, from a place on
first_from : (ins : List (Option Value)) (whole rules : List RuleC) (a : ℕ) → ((i : ℕ) → slice_get whole (a + i) ≡ slice_get rules i)
    → option_and_then (slice_get whole) (find (λ number. rule_fits ins (slice_get whole number)) (range_with_len a (length rules)))
    ≡ find (fits_rule ins) rules
first_from ins whole [] a at = refl
first_from ins whole (rule ∷ rules) a at =
    let here : slice_get whole a ≡ Some rule = (let e : a + 0 ≡ a = omega arith in ap (slice_get whole) (sym e) ∙ at 0) in
    let later : option_and_then (slice_get whole) (find (λ number. rule_fits ins (slice_get whole number)) (range_with_len (a + 1) (length rules)))
    ≡ find (fits_rule ins) rules
    = first_from ins whole rules (a + 1) (λ i. (let e : a + 1 + i ≡ a + suc i = omega arith in ap (slice_get whole) e ∙ at (suc i))) in
    let tested : rule_fits ins (slice_get whole a) ≡ fits_rule ins rule = ap (rule_fits ins) here in
    ap (λ b. option_and_then (slice_get whole) (cond b (Some a) (find (λ number. rule_fits ins (slice_get whole number)) (range_with_len (a + 1) (length rules))))) tested
    ∙ by (fits_rule ins rule) here later
  where
    by : (b : Bool) → slice_get whole a ≡ Some rule
        → option_and_then (slice_get whole) (find (λ number. rule_fits ins (slice_get whole number)) (range_with_len (a + 1) (length rules))) ≡ find (fits_rule ins) rules
        → option_and_then (slice_get whole) (cond b (Some a) (find (λ number. rule_fits ins (slice_get whole number)) (range_with_len (a + 1) (length rules))))
        ≡ cond b (Some rule) (find (fits_rule ins) rules)
    by true here later = here
    by false here later = later

-- the rule of the first number that fits, in the written order
pub first_rule : (ins : List (Option Value)) (rules : List RuleC)
    → option_and_then (slice_get rules) (find (λ number. rule_fits ins (slice_get rules number)) (range_with_len 0 (length rules))) ≡ find (fits_rule ins) rules
first_rule ins rules = first_from ins rules rules 0 (λ i. (let e : 0 + i ≡ i = omega arith in ap (slice_get rules) e))

-- what a rule takes, and what it gives, whatever its number
pub record Effect : Type 0 where
  pub taken : List Bool
  pub outs : List (Option Value)

abbrev pub effect_of : Core → BoxC → List (Option Value) → RuleC → Effect
effect_of core b ins rule = record {
  taken = taken_at rule.pats ins;
  outs = handled core b.handlers (result_of core (bound rule.pats ins) rule.result);
}

abbrev pub effect : Firing → Effect
effect firing = record { taken = firing.taken; outs = firing.outs }

-- what fires in an order has the effect of its rule
fires_as : (core : Core) (b : BoxC) (ins : List (Option Value)) (number : Option ℕ)
    → option_map effect (option_and_then (λ n. option_map (firing_of core b n ins) (slice_get b.rules n)) number)
    ≡ option_map (effect_of core b ins) (option_and_then (slice_get b.rules) number)
fires_as core b ins None = refl
fires_as core b ins (Some n) = by (slice_get b.rules n)
  where
    by : (o : Option RuleC) → option_map effect (option_map (firing_of core b n ins) o) ≡ option_map (effect_of core b ins) o
    by None = refl
    by (Some rule) = refl

-- what fires in the written order has the effect of the first rule that fits
pub fires_first : (core : Core) (b : BoxC) (ins : List (Option Value))
    → option_map effect (fire core b (range_with_len 0 (length b.rules)) ins) ≡ option_map (effect_of core b ins) (find (fits_rule ins) b.rules)
fires_first core b ins =
    fires_as core b ins (find (λ number. rule_fits ins (slice_get b.rules number)) (range_with_len 0 (length b.rules)))
    ∙ ap (option_map (effect_of core b ins)) (first_rule ins b.rules)
