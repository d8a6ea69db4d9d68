-- Steps that aren't refused keep every run.
use Rattle.std.proofs.Common.{◌≡◌, ℕ, List, Option, Some, None, refl, ap, sym, ◌∙◌, subst}
use Rattle.std.specs.Option.{option_and_then}
use Rattle.hume_model.specs.declared.core_tree.BoxC.{BoxC}
use Rattle.hume_model.specs.declared.core_tree.Core.{Core}
use Rattle.hume_model.specs.declared.core_tree.RuleC.{RuleC}
use Rattle.hume_base.specs.declared.finding.Finding.{Finding}
use Rattle.hume_model.specs.HandlerRules.{BreaksHandlers}
use Rattle.hume_model.specs.WellFormed.{IsWellFormed}
use Rattle.hume_model.specs.WireRules.{BreaksWires}
use Rattle.hume_net.specs.declared.state.State.{State}
use Rattle.hume_net.specs.Lockstep.{lockstep}
use Rattle.calculus_laws.specs.declared.step.Step.{Step}
use Rattle.calculus_laws.specs.declared.step.Step.TheVariants.{Name, Swap, Unfold}
use Rattle.calculus_laws.specs.Boxes.{box_at, with_box}
use Rattle.calculus_laws.specs.Naming.{OnlyOutput, named_output, output_at, output_refusal}
use Rattle.calculus_laws.specs.Orders.{HasWrittenOrders}
use Rattle.calculus_laws.specs.Steps.{IsOnRule, box_refusal, node_of, refusal, rewritten, rewritten_at, rewritten_box}
use Rattle.calculus_laws.specs.Unfolding.{unfold_refusal, unfolded_at, unfolded_core, with_rule}
use Rattle.calculus_laws.proofs.NamedCores.{named_formed, named_handlers, named_wires}
use Rattle.calculus_laws.proofs.NamedRuns.{named_same, output_is}
use Rattle.calculus_laws.proofs.SameNets.{SameNets, lockstep_same}
use Rattle.calculus_laws.proofs.SwappedCores.{swapped_formed, swapped_handlers, swapped_wires}
use Rattle.calculus_laws.proofs.Swaps.{may_swap, swap_same}
use Rattle.calculus_laws.proofs.UnfoldedCores.{unfolded_formed, unfolded_handlers, unfolded_wires}
use Rattle.calculus_laws.proofs.UnfoldedRuns.{is_unfolded, unfolded_same}

-- what a step makes of the core that has its box
pub at_box : (P : Core → Type 0) (core : Core) (step : Step) (on : IsOnRule core step) → P (rewritten_box core step on.b) → P (rewritten core step)
at_box P core step on holds = subst (λ o. P (rewritten_at core step o)) (sym on.there) holds

pub box_allowed : (core : Core) (step : Step) (on : IsOnRule core step) → refusal core step ≡ None → box_refusal core step on.b ≡ None
box_allowed core step on allowed = ap (option_and_then (box_refusal core step)) (sym on.there) ∙ allowed

-- what holds of each core with a new function that isn't refused holds of the one that the step makes
by_output : (P : Core → Type 0) (core : Core) (n rule : ℕ) (name : List ℕ) (b : BoxC)
    → ((output : OnlyOutput) → output_at b rule ≡ Some output → output_refusal core.types core.funs name b (Some output) ≡ None
    → P (named_output core n rule name b (Some output)))
    → (o : Option OnlyOutput) → output_at b rule ≡ o → output_refusal core.types core.funs name b o ≡ None → P (named_output core n rule name b o)
by_output P core n rule name b each None is refused = cc
by_output P core n rule name b each (Some output) is allowed = each output is allowed

-- what holds of each core with an unfolded rule holds of the one that the step makes
pub by_rule : (P : Core → Type 0) (core : Core) (n rule : ℕ) (b : BoxC)
    → ((new : RuleC) → unfolded_at core b rule ≡ Some new → P (with_box core n (with_rule rule new b)))
    → (o : Option RuleC) → unfolded_at core b rule ≡ o → unfold_refusal o ≡ None → P (unfolded_core core n rule b o)
by_rule P core n rule b each None is refused = cc
by_rule P core n rule b each (Some new) is allowed = each new is

module _ (core : Core) (formed : IsWellFormed core) where
  box_same : (step : Step) (b : BoxC) → box_at core (node_of step) ≡ Some b → box_refusal core step b ≡ None → SameNets core (rewritten_box core step b)
  box_same (Unfold node rule) b there allowed =
      by_rule (SameNets core) core node rule b
      (λ new is. unfolded_same core formed node rule b there new (is_unfolded core b rule new is)) (unfolded_at core b rule) refl allowed
  box_same (Swap node rule) b there allowed = swap_same core node rule b (may_swap b rule allowed) there
  box_same (Name node rule name) b there allowed =
      by_output (SameNets core) core node rule name b
      (λ output is may. named_same core formed node rule name b there output (output_is b rule output is)) (output_at b rule) refl allowed

  box_formed : (step : Step) (b : BoxC) → box_at core (node_of step) ≡ Some b → box_refusal core step b ≡ None → IsWellFormed (rewritten_box core step b)
  box_formed (Unfold node rule) b there allowed =
      by_rule (IsWellFormed) core node rule b
      (λ new is. unfolded_formed core formed node rule b there new (is_unfolded core b rule new is)) (unfolded_at core b rule) refl allowed
  box_formed (Swap node rule) b there allowed = swapped_formed core node rule b there formed
  box_formed (Name node rule name) b there allowed =
      by_output IsWellFormed core node rule name b
      (λ output is may. named_formed core formed node rule name b there output (output_is b rule output is) may) (output_at b rule) refl allowed

  box_wires : (step : Step) (b : BoxC) → box_at core (node_of step) ≡ Some b → box_refusal core step b ≡ None
      → (finding : Finding) → BreaksWires (rewritten_box core step b) finding → BreaksWires core finding
  box_wires (Unfold node rule) b there allowed =
      by_rule (λ new. (finding : Finding) → BreaksWires new finding → BreaksWires core finding) core node rule b
      (λ new is. unfolded_wires core formed node rule b there new (is_unfolded core b rule new is)) (unfolded_at core b rule) refl allowed
  box_wires (Swap node rule) b there allowed = swapped_wires core node rule b there
  box_wires (Name node rule name) b there allowed =
      by_output (λ new. (finding : Finding) → BreaksWires new finding → BreaksWires core finding) core node rule name b
      (λ output is may. named_wires core formed node rule name b there output (output_is b rule output is) may) (output_at b rule) refl allowed

  box_handlers : (step : Step) (b : BoxC) → box_at core (node_of step) ≡ Some b → box_refusal core step b ≡ None
      → (finding : Finding) → BreaksHandlers (rewritten_box core step b) finding → BreaksHandlers core finding
  box_handlers (Unfold node rule) b there allowed =
      by_rule (λ new. (finding : Finding) → BreaksHandlers new finding → BreaksHandlers core finding) core node rule b
      (λ new is. unfolded_handlers core formed node rule b there new (is_unfolded core b rule new is)) (unfolded_at core b rule) refl allowed
  box_handlers (Swap node rule) b there allowed = swapped_handlers core node rule b there
  box_handlers (Name node rule name) b there allowed =
      by_output (λ new. (finding : Finding) → BreaksHandlers new finding → BreaksHandlers core finding) core node rule name b
      (λ output is may. named_handlers core formed node rule name b there output (output_is b rule output is) may) (output_at b rule) refl allowed

pub run_kept : (core : Core) (step : Step) → IsWellFormed core → IsOnRule core step → refusal core step ≡ None
    → (state : State) → HasWrittenOrders core state → (k : ℕ) → lockstep (rewritten core step) state k ≡ lockstep core state k
run_kept core step formed on allowed =
    at_box (λ new. (state : State) → HasWrittenOrders core state → (k : ℕ) → lockstep new state k ≡ lockstep core state k) core step on
    (lockstep_same core (rewritten_box core step on.b) (box_same core formed step on.b on.there (box_allowed core step on allowed)))

pub core_formed : (core : Core) (step : Step) → IsWellFormed core → IsOnRule core step → refusal core step ≡ None → IsWellFormed (rewritten core step)
core_formed core step formed on allowed =
    at_box IsWellFormed core step on (box_formed core formed step on.b on.there (box_allowed core step on allowed))

pub wires_kept : (core : Core) (step : Step) → IsWellFormed core → IsOnRule core step → refusal core step ≡ None
    → (finding : Finding) → BreaksWires (rewritten core step) finding → BreaksWires core finding
wires_kept core step formed on allowed =
    at_box (λ new. (finding : Finding) → BreaksWires new finding → BreaksWires core finding) core step on
    (box_wires core formed step on.b on.there (box_allowed core step on allowed))

pub handlers_kept : (core : Core) (step : Step) → IsWellFormed core → IsOnRule core step → refusal core step ≡ None
    → (finding : Finding) → BreaksHandlers (rewritten core step) finding → BreaksHandlers core finding
handlers_kept core step formed on allowed =
    at_box (λ new. (finding : Finding) → BreaksHandlers new finding → BreaksHandlers core finding) core step on
    (box_handlers core formed step on.b on.there (box_allowed core step on allowed))
