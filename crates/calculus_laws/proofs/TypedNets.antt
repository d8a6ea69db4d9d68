-- The boxes of a well-formed core do the same in a core where typed expressions mean the same.
use Rattle.std.proofs.Common.{◌≡◌, ℕ, List, map, Option, Some, None, slice_get, refl, ap, ◌∙◌}
use Rattle.hume_base.specs.declared.types.Ty.{Ty}
use Rattle.hume_base.specs.declared.types.Value.{Value}
use Rattle.hume_model.specs.declared.core_tree.Expr.{Expr}
use Rattle.hume_model.specs.declared.core_tree.RuleC.{RuleC}
use Rattle.hume_model.specs.declared.core_tree.BoxC.{BoxC}
use Rattle.hume_model.specs.declared.core_tree.NodeC.{NodeC}
use Rattle.hume_model.specs.declared.core_tree.NodeC.TheVariants.{Rules, From, To}
use Rattle.hume_model.specs.declared.core_tree.Core.{Core}
use Rattle.hume_model.specs.declared.outcome.Firing.{Firing}
use Rattle.hume_model.specs.declared.outcome.Outputs.{Outputs}
use Rattle.hume_model.specs.Matching.{bound}
use Rattle.hume_model.specs.Firing.{fire, handled}
use Rattle.hume_model.specs.Results.{meaning_in}
use Rattle.hume_model.specs.Typing.{HasType}
use Rattle.hume_model.specs.BoxTyping.{BoxIsTyped, port_types}
use Rattle.hume_model.specs.WellFormed.{IsWellFormed}
use Rattle.hume_net.specs.declared.state.Part.{Part}
use Rattle.hume_net.specs.HalfSteps.{fired, oldest}
use Rattle.calculus_laws.proofs.Agreeing.{results_agree}
use Rattle.calculus_laws.proofs.ChangedBox.{BothAt, self_at}
use Rattle.calculus_laws.proofs.SameNets.{SameBoxes, SameNodes}
use Rattle.calculus_laws.proofs.SameRules.{SameRules, fire_same, handled_same}

module _ (core new : Core) (mean : (vars : List Ty) (e : Expr) (ty : Ty) → HasType core vars e ty → (env : List Value) → meaning_in new e env ≡ meaning_in core e env) where
  pub own_rule : (b : BoxC) → BoxIsTyped core b → (n : ℕ) (rule : RuleC) → slice_get b.rules n ≡ Some rule → SameRules core new rule rule
  own_rule b typed n rule at = record {
    pats = refl;
    gives = λ ins fit. results_agree core new mean (port_types b.outs) (typed.rules n rule at).outputs (bound rule.pats ins);
  }

  pub own_handlers : (b : BoxC) → BoxIsTyped core b → (outs : Outputs) → handled new b.handlers outs ≡ handled core b.handlers outs
  own_handlers b typed =
      handled_same core new b.handlers (λ n handler at env. results_agree core new mean (port_types b.outs) (typed.handlers n handler at).outputs env)

  other_rules : (b : BoxC) (rules : List RuleC) (part : Part) (wires : List (List Value)) (o : Option Firing)
      → fired (record b { rules = rules }) part wires o ≡ fired b part wires o
  other_rules b rules part wires None = refl
  other_rules b rules part wires (Some firing) = refl

  -- a box with other rules that are the same at each place
  pub same_rules : (b : BoxC) → BoxIsTyped core b → (rules : List RuleC) → ((n : ℕ) → BothAt (SameRules core new) (slice_get b.rules n) (slice_get rules n))
      → SameBoxes core new b (record b { rules = rules })
  same_rules b typed rules same = record {
    ins = refl;
    outs = refl;
    fires = λ part wires order.
        ap (fired (record b { rules = rules }) part wires)
        (fire_same core new b (record b { rules = rules }) (map oldest wires) same (own_handlers b typed) part.order)
        ∙ other_rules b rules part wires (fire core b part.order (map oldest wires));
  }

  pub own_node : IsWellFormed core → (n : ℕ) (node : NodeC) → slice_get core.nodes n ≡ Some node → SameNodes core new node node
  own_node formed n (Rules b) at =
      same_rules b (formed.boxes n b at) b.rules (λ m. self_at (SameRules core new) (slice_get b.rules m) (λ rule is. own_rule b (formed.boxes n b at) m rule is))
  own_node formed n (From stream) at = tt
  own_node formed n (To stream) at = tt
