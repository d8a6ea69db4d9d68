-- Steps of the loops over the rules of a box and over their positions.
use Rattle.std.proofs.Common.{◌≡◌, ℕ, ◌+◌, ◌<◌, ◌||◌, Bool, true, false, List, [], ◌∷◌, ◌++◌, drop, get_or, length, ap, sym, ◌∙◌, append_assoc, append-nil, if◌then◌else◌}
use Rattle.std.proofs.lemmas.Grind.{common_steps}
use Rattle.typed_core.specs.declared.typed_tree.TypedRule.{TypedRule}
use Rattle.c_expressions.specs.declared.arms.Way.{Way}
use Rattle.c_expressions.specs.declared.made.Made.{Made}
use Rattle.c_expressions.specs.inner.Ways.{ways_before}
use Rattle.c_expressions.specs.Expressions.{arm_built, no_exp, tried}
use Rattle.c_expressions.proofs.WaysForms.{last_way}
use Rattle.c_analysis.specs.Targets.{Target}
use Rattle.c_boxes.specs.Rules.{Shown, rule_way, rules_made}
use Rattle.c_boxes.proofs.ResultForms.{drop_next}

-- the rules from a place on
module _ (t : Target) (node : Shown) (rules : List TypedRule) (n : ℕ) (rule : TypedRule) (next : ℕ) (way : Way) where
  abbrev from : ℕ → ℕ → Made
  from place number = rules_made t node place (drop place rules) number

  abbrev ends : Bool
  ends = no_exp way.tests || false

  abbrev found : Way
  found = rule_way t node n rule next

  rules_from : n < length rules → rule ≡ get_or rules n rule → way ≡ found
      → from n next ≡ arm_built way.tests false way.made (from (n + 1) way.made.next)
  rules_from lt is same =
      ap (λ them. rules_made t node n them next) (drop_next rules n rule lt is)
      ∙ ap (λ (it : Way). arm_built it.tests false it.made (from (n + 1) it.made.next)) (sym same)

  pub rules_end : n < length rules → rule ≡ get_or rules n rule → way ≡ found → ends ≡ true → from n next ≡ way.made
  rules_end lt is same last =
      rules_from lt is same ∙ ap (λ b. if b then way.made else tried way.tests way.made.statements (from (n + 1) way.made.next)) last

  pub rules_go_on : (ways : List Way) → n < length rules → rule ≡ get_or rules n rule → way ≡ found → ends ≡ false
      → ways_before (ways ++ way ∷ []) (from (n + 1) way.made.next) ≡ ways_before ways (from n next)
  rules_go_on ways lt is same more =
      last_way ways way _
      ∙ ap (ways_before ways) (sym (rules_from lt is same ∙ ap (λ b. if b then way.made else tried way.tests way.made.statements (from (n + 1) way.made.next)) more))

pub ruleset rule_steps = (common_steps, append_assoc, append-nil)
