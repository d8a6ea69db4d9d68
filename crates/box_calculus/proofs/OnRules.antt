-- The step that a line asks for is about a rule that there is.
use Rattle.std.proofs.Common.{◌≡◌, ℕ, ◌-◌, ◌<◌, ◌≤◌, ◌&&◌, nat_le, Bool, true, false, List, [], ◌∷◌, length, Option, Some, None, codes, bytes_eq, refl, ap, sym, ◌∙◌, subst, arith, if◌then◌else◌}
use Rattle.std.specs.Option.{option_and_then, option_map}
use Rattle.std.proofs.lemmas.Bool.{and_parts, leb-true}
use Rattle.hume_model.specs.declared.core_tree.BoxC.{BoxC}
use Rattle.hume_model.specs.declared.core_tree.Core.{Core}
use Rattle.calculus_laws.specs.declared.step.Step.{Step}
use Rattle.calculus_laws.specs.declared.step.Step.TheVariants.{Name, Swap, Unfold}
use Rattle.calculus_laws.specs.Boxes.{box_at}
use Rattle.calculus_laws.specs.Steps.{IsOnRule}
use Rattle.box_calculus.specs.declared.lines.RulePlace.{RulePlace}
use Rattle.box_calculus.specs.Lines.{box_number, has_bytes, name_of, number_of, on_rule_of, rule_in, rule_place, rule_within, rules_of, step_of, step_of_words, step_on_rule, words_of}

-- a box of the core has the rule
record IsRuleOf (core : Core) (at : RulePlace) : Type 0 where
  b : BoxC
  there : box_at core at.node ≡ Some b
  rule : at.rule < length b.rules

within : (count : ℕ) (number : Option ℕ) (rule : ℕ) → rule_within count number ≡ Some rule → rule < count
within count None rule is = cc
within count (Some n) rule is = by (nat_le 1 n && nat_le n count) refl is
  where
    by : (b : Bool) → (nat_le 1 n && nat_le n count) ≡ b → (if b then Some (n - 1) else None) ≡ Some rule → rule < count
    by false fails is = cc
    by true holds is =
        (let both = and_parts _ _ holds in let some = leb-true 1 n both.0 in let few = leb-true n count both.1 in let same : n - 1 ≡ rule = cc in omega (arith, some, few, same))

box_with : (core : Core) (node rule : ℕ) (o : Option BoxC) → box_at core node ≡ o → rule < rules_of o → IsRuleOf core (record { node = node; rule = rule })
box_with core node rule None there below = absurd (omega arith)
box_with core node rule (Some b) there below = record { b = b; there = there; rule = below }

-- the rule that is found stands in a box
rule_there : (core : Core) (node : ℕ) (at : RulePlace) (o : Option ℕ) → ((rule : ℕ) → o ≡ Some rule → rule < rules_of (box_at core node))
    → option_map (λ rule. record { node = node; rule = rule }) o ≡ Some at → IsRuleOf core at
rule_there core node at None below is = cc
rule_there core node at (Some rule) below is =
    let same : record { node = node; rule = rule } ≡ at = cc in
    subst (IsRuleOf core) same (box_with core node rule (box_at core node) refl (below rule refl))

place_there : (core : Core) (word : List ℕ) (at : RulePlace) (o : Option ℕ) → option_and_then (rule_in core word) o ≡ Some at → IsRuleOf core at
place_there core word at None is = cc
place_there core word at (Some node) is =
    rule_there core node at (rule_within (rules_of (box_at core node)) (number_of word))
    (λ rule found. within (rules_of (box_at core node)) (number_of word) rule found) is

there : (core : Core) (name word : List ℕ) (at : RulePlace) → rule_place core name word ≡ Some at → IsRuleOf core at
there core name word at is = place_there core word at (box_number core name) is

-- a step of a verb on the rule is about it
verb_on : (core : Core) (verb : List ℕ) (at : RulePlace) (step : Step) → IsRuleOf core at → step_on_rule verb at ≡ Some step → IsOnRule core step
verb_on core verb at step is asked = by (bytes_eq verb (codes "swap")) (bytes_eq verb (codes "unfold")) asked
  where
    by : (a b : Bool) → (if a then Some (Swap at.node at.rule) else if b then Some (Unfold at.node at.rule) else None) ≡ Some step → IsOnRule core step
    by true b asked =
        (let same : Swap at.node at.rule ≡ step = cc in subst (IsOnRule core) same (record { b = is.b; there = is.there; rule = is.rule }))
    by false true asked =
        (let same : Unfold at.node at.rule ≡ step = cc in subst (IsOnRule core) same (record { b = is.b; there = is.there; rule = is.rule }))
    by false false asked = cc

on_found : (core : Core) (verb : List ℕ) (step : Step) (o : Option RulePlace) → ((at : RulePlace) → o ≡ Some at → IsRuleOf core at)
    → option_and_then (step_on_rule verb) o ≡ Some step → IsOnRule core step
on_found core verb step None each asked = cc
on_found core verb step (Some at) each asked = verb_on core verb at step (each at refl) asked

three : (core : Core) (verb name word : List ℕ) (step : Step) → on_rule_of core verb name word ≡ Some step → IsOnRule core step
three core verb name word step asked = on_found core verb step (rule_place core name word) (there core name word) asked

naming_found : (core : Core) (function : List ℕ) (step : Step) (o : Option RulePlace) → ((at : RulePlace) → o ≡ Some at → IsRuleOf core at)
    → option_map (λ (at : RulePlace). Name at.node at.rule function) o ≡ Some step → IsOnRule core step
naming_found core function step None each asked = cc
naming_found core function step (Some at) each asked =
    let is = each at refl in
    let same : Name at.node at.rule function ≡ step = cc in
    subst (IsOnRule core) same (record { b = is.b; there = is.there; rule = is.rule })

four : (core : Core) (verb name word function : List ℕ) (step : Step) → name_of core verb name word function ≡ Some step → IsOnRule core step
four core verb name word function step asked = by (bytes_eq verb (codes "name") && has_bytes function) asked
  where
    by : (b : Bool) → (if b then option_map (λ (at : RulePlace). Name at.node at.rule function) (rule_place core name word) else None) ≡ Some step
        → IsOnRule core step
    by true asked = naming_found core function step (rule_place core name word) (there core name word) asked
    by false asked = cc

by_words : (core : Core) (words : List (List ℕ)) (step : Step) → step_of_words core words ≡ Some step → IsOnRule core step
by_words core [] step asked = cc
by_words core (verb ∷ []) step asked = cc
by_words core (verb ∷ name ∷ []) step asked = cc
by_words core (verb ∷ name ∷ word ∷ []) step asked = three core verb name word step asked
by_words core (verb ∷ name ∷ word ∷ function ∷ []) step asked = four core verb name word function step asked
by_words core (verb ∷ name ∷ word ∷ function ∷ other ∷ words) step asked = cc

pub on_rule : (core : Core) (line : List ℕ) (step : Step) → step_of core line ≡ Some step → IsOnRule core step
on_rule core line step asked = by_words core (words_of line) step asked
