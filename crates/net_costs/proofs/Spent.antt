-- What an execute step takes: what the rule that fires takes, or nothing; and only its node's part and inputs tell it.
use Rattle.std.proofs.Common.{◌≡◌, ℕ, List, map, Option, Some, None, slice_get, refl, ap, sym, ◌∙◌, cond}
use Rattle.std.specs.List.{find}
use Rattle.std.specs.Option.{is_some, option_map, option_and_then}
use Rattle.hume_base.specs.declared.types.Value.{Value}
use Rattle.hume_model.specs.declared.core_tree.RuleC.{RuleC}
use Rattle.hume_model.specs.declared.core_tree.BoxC.{BoxC}
use Rattle.hume_model.specs.declared.core_tree.StreamC.{StreamC}
use Rattle.hume_model.specs.declared.core_tree.NodeC.{NodeC}
use Rattle.hume_model.specs.declared.core_tree.NodeC.TheVariants.{Rules, From, To}
use Rattle.hume_model.specs.declared.core_tree.WireC.{WireC}
use Rattle.hume_model.specs.declared.core_tree.Core.{Core}
use Rattle.hume_model.specs.declared.outcome.Firing.{Firing}
use Rattle.hume_model.specs.Firing.{fire, firing_of, rule_fits}
use Rattle.hume_net.specs.declared.state.State.{State}
use Rattle.hume_net.specs.HalfSteps.{oldest}
use Rattle.hume_net.specs.Sides.{inputs, part_of, on_wire}
use Rattle.hume_net.proofs.Times.{same_inputs}
use Rattle.box_costs.specs.Costs.{nothing}
use Rattle.box_costs.specs.ResultSpending.{box_spent, rule_spent, cost_if_fits}
use Rattle.net_costs.specs.Steps.{node_step_spent, step_spent}

-- boxes

module _ (core : Core) (b : BoxC) (ins : List (Option Value)) where
  rule_fired : (number : ℕ) (there : Option RuleC) → slice_get b.rules number ≡ there
      → (firing : Firing) → option_map (firing_of core b number ins) there ≡ Some firing
      → (rule : RuleC) → slice_get b.rules firing.rule ≡ Some rule → cost_if_fits (option_map (rule_spent core b ins) there) ≡ (rule_spent core b ins rule).cost
  rule_fired number None is firing fires rule found = cc
  rule_fired number (Some first) is firing fires rule found =
      let same : firing_of core b number ins first ≡ firing = cc in
      let at : number ≡ firing.rule = ap (λ (f : Firing). f.rule) same in
      let one : first ≡ rule = (let both : Some first ≡ Some rule = sym is ∙ ap (slice_get b.rules) at ∙ found in cc) in
      ap (λ r. (rule_spent core b ins r).cost) one

  first_fired : (number : Option ℕ) (firing : Firing)
      → option_and_then (λ number. option_map (firing_of core b number ins) (slice_get b.rules number)) number ≡ Some firing
      → (rule : RuleC) → slice_get b.rules firing.rule ≡ Some rule
      → cost_if_fits (option_and_then (λ number. option_map (rule_spent core b ins) (slice_get b.rules number)) number) ≡ (rule_spent core b ins rule).cost
  first_fired None firing fires rule found = cc
  first_fired (Some number) firing fires rule found = rule_fired number (slice_get b.rules number) refl firing fires rule found

  box_fires : (order : List ℕ) (firing : Firing) → fire core b order ins ≡ Some firing → (rule : RuleC) → slice_get b.rules firing.rule ≡ Some rule
      → box_spent core b order ins ≡ (rule_spent core b ins rule).cost
  box_fires order firing fires rule found = first_fired (find (λ number. rule_fits ins (slice_get b.rules number)) order) firing fires rule found

  none_there : (number : ℕ) (there : Option RuleC) → option_map (firing_of core b number ins) there ≡ None
      → cost_if_fits (option_map (rule_spent core b ins) there) ≡ nothing
  none_there number None none = refl
  none_there number (Some rule) none = cc

  none_first : (number : Option ℕ) → option_and_then (λ number. option_map (firing_of core b number ins) (slice_get b.rules number)) number ≡ None
      → cost_if_fits (option_and_then (λ number. option_map (rule_spent core b ins) (slice_get b.rules number)) number) ≡ nothing
  none_first None none = refl
  none_first (Some number) none = none_there number (slice_get b.rules number) none

  box_rests : (order : List ℕ) → fire core b order ins ≡ None → box_spent core b order ins ≡ nothing
  box_rests order none = none_first (find (λ number. rule_fits ins (slice_get b.rules number)) order) none

-- nodes

module _ (core : Core) (state : State) (n : ℕ) (b : BoxC) (there : slice_get core.nodes n ≡ Some (Rules b)) where
  abbrev seen : List (Option Value)
  seen = map oldest (inputs core state n (Rules b))

  box_step : step_spent core state n ≡ cond (is_some (part_of state n).pending) nothing (box_spent core b (part_of state n).order seen)
  box_step = ap (node_step_spent core state n) there

  when_free : (part_of state n).pending ≡ None → step_spent core state n ≡ box_spent core b (part_of state n).order seen
  when_free free = box_step ∙ ap (λ pending. cond (is_some pending) nothing (box_spent core b (part_of state n).order seen)) free

  pub fires_spend : (part_of state n).pending ≡ None → (firing : Firing) → fire core b (part_of state n).order seen ≡ Some firing
      → (rule : RuleC) → slice_get b.rules firing.rule ≡ Some rule → step_spent core state n ≡ (rule_spent core b seen rule).cost
  fires_spend free firing fires rule found = when_free free ∙ box_fires core b seen (part_of state n).order firing fires rule found

  pub rests_spend : (part_of state n).pending ≡ None → fire core b (part_of state n).order seen ≡ None → step_spent core state n ≡ nothing
  rests_spend free none = when_free free ∙ box_rests core b seen (part_of state n).order none

  pub waits_spend : (outs : List (Option Value)) → (part_of state n).pending ≡ Some outs → step_spent core state n ≡ nothing
  waits_spend outs pending = box_step ∙ ap (λ pending. cond (is_some pending) nothing (box_spent core b (part_of state n).order seen)) pending

pub sources_spend : (core : Core) (state : State) (n : ℕ) (stream : StreamC) → slice_get core.nodes n ≡ Some (From stream) → step_spent core state n ≡ nothing
sources_spend core state n stream there = ap (node_step_spent core state n) there

pub sinks_spend : (core : Core) (state : State) (n : ℕ) (stream : StreamC) → slice_get core.nodes n ≡ Some (To stream) → step_spent core state n ≡ nothing
sinks_spend core state n stream there = ap (node_step_spent core state n) there

-- sides

module _ (core : Core) (s t : State) (n : ℕ) (same : part_of s n ≡ part_of t n)
    (alike : (w : ℕ) (wire : WireC) → slice_get core.wires w ≡ Some wire → wire.to ≡ n → on_wire s w ≡ on_wire t w) where
  spent_alike : (node : Option NodeC) → node_step_spent core s n node ≡ node_step_spent core t n node
  spent_alike None = refl
  spent_alike (Some (Rules b)) =
      ap (λ part. cond (is_some part.pending) nothing (box_spent core b part.order (map oldest (inputs core s n (Rules b))))) same
      ∙ ap (λ sides. cond (is_some (part_of t n).pending) nothing (box_spent core b (part_of t n).order (map oldest sides)))
      (same_inputs core s t n same alike (Rules b))
  spent_alike (Some (From stream)) = refl
  spent_alike (Some (To stream)) = refl

  pub same_spent : step_spent core s n ≡ step_spent core t n
  same_spent = spent_alike (slice_get core.nodes n)
