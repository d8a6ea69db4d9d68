-- Steps keep the inputs and outputs of boxes, so each has its one wire as before.
use Rattle.std.proofs.Common.{◌≡◌, ℕ, ◌<◌, List, length, Option, Some, None, slice_get, slice_set, refl, ap, sym, ◌∙◌, subst}
use Rattle.hume_model.specs.declared.core_tree.PortC.{PortC}
use Rattle.hume_model.specs.declared.core_tree.BoxC.{BoxC}
use Rattle.hume_model.specs.declared.core_tree.FunC.{FunC}
use Rattle.hume_model.specs.declared.core_tree.NodeC.{NodeC}
use Rattle.hume_model.specs.declared.core_tree.RuleC.{RuleC}
use Rattle.hume_model.specs.declared.core_tree.NodeC.TheVariants.{Rules, From, To}
use Rattle.hume_model.specs.declared.core_tree.WireC.{WireC}
use Rattle.hume_model.specs.declared.core_tree.Core.{Core}
use Rattle.hume_model.specs.Wiring.{IsWired, WiresAgree, inputs_of, outputs_of}
use Rattle.calculus_laws.specs.declared.step.Step.{Step}
use Rattle.calculus_laws.specs.declared.step.Step.TheVariants.{Name, Swap, Unfold}
use Rattle.calculus_laws.specs.Boxes.{box_at}
use Rattle.calculus_laws.specs.Naming.{OnlyOutput, named_output, output_at}
use Rattle.calculus_laws.specs.Steps.{IsOnRule, node_of, refusal, rewritten, rewritten_at, rewritten_box}
use Rattle.calculus_laws.specs.Unfolding.{unfolded_at, unfolded_core}
use Rattle.calculus_laws.proofs.ChangedBox.{BothAt, box_there, related_at, self_at}

-- two boxes with the same inputs and outputs, or the same stream
abbrev SameEnds : NodeC → NodeC → Type 0
SameEnds (Rules b) (Rules c) = (c.ins ≡ b.ins) × (c.outs ≡ b.outs)
SameEnds (Rules b) (From stream) = ⊥
SameEnds (Rules b) (To stream) = ⊥
SameEnds (From stream) other = From stream ≡ other
SameEnds (To stream) other = To stream ≡ other

same_ends : (node : NodeC) → SameEnds node node
same_ends (Rules b) = (refl, refl)
same_ends (From stream) = refl
same_ends (To stream) = refl

inputs_same : (old new : NodeC) → SameEnds old new → inputs_of new ≡ inputs_of old
inputs_same (Rules b) (Rules c) same = ap length same.0
inputs_same (Rules b) (From stream) same = absurd same
inputs_same (Rules b) (To stream) same = absurd same
inputs_same (From stream) other same = ap inputs_of (sym same)
inputs_same (To stream) other same = ap inputs_of (sym same)

outputs_same : (old new : NodeC) → SameEnds old new → outputs_of new ≡ outputs_of old
outputs_same (Rules b) (Rules c) same = ap length same.1
outputs_same (Rules b) (From stream) same = absurd same
outputs_same (Rules b) (To stream) same = absurd same
outputs_same (From stream) other same = ap outputs_of (sym same)
outputs_same (To stream) other same = ap outputs_of (sym same)

-- a box was a box
record WasBox (old : NodeC) (c : BoxC) : Type 0 where
  b : BoxC
  is : old ≡ Rules b
  ins : c.ins ≡ b.ins
  outs : c.outs ≡ b.outs

was_box : (old : NodeC) (c : BoxC) → SameEnds old (Rules c) → WasBox old c
was_box (Rules b) c same = record { b = b; is = refl; ins = same.0; outs = same.1 }
was_box (From stream) c same = cc
was_box (To stream) c same = cc

module _ (core : Core) (funs : List FunC) (nodes : List NodeC) (ends : (n : ℕ) → BothAt SameEnds (slice_get core.nodes n) (slice_get nodes n)) where
  abbrev new : Core
  new = record core { funs = funs; nodes = nodes }

  record Was (n : ℕ) (node : NodeC) : Type 0 where
    old : NodeC
    there : slice_get core.nodes n ≡ Some old
    same : SameEnds old node

  was_at : (n : ℕ) (node : NodeC) (o p : Option NodeC) → slice_get core.nodes n ≡ o → BothAt SameEnds o p → p ≡ Some node → Was n node
  was_at n node o None there both is = cc
  was_at n node None (Some y) there both is = absurd both
  was_at n node (Some x) (Some y) there both is =
      let same : y ≡ node = cc in
      record { old = x; there = there; same = subst (SameEnds x) same both }

  was : (n : ℕ) (node : NodeC) → slice_get nodes n ≡ Some node → Was n node
  was n node is = was_at n node (slice_get core.nodes n) (slice_get nodes n) refl (ends n) is

  wired : IsWired core → IsWired new
  wired before = record {
    inputs = λ n input node there within.
        let old = was n node there in
        before.inputs n input old.old old.there (subst (λ m. input < m) (inputs_same old.old node old.same) within);
    outputs = λ n output node there within.
        let old = was n node there in
        before.outputs n output old.old old.there (subst (λ m. output < m) (outputs_same old.old node old.same) within);
  }

  agree : WiresAgree core → WiresAgree new
  agree before = record {
    consumers = before.consumers;
    producers = before.producers;
    inputs = λ w wire c input there at port.
        let old = was wire.to (Rules c) at in
        let box = was_box old.old c old.same in
        before.inputs w wire box.b input there (old.there ∙ ap Some box.is) (ap (λ ports. slice_get ports wire.to_port) (sym box.ins) ∙ port);
    outputs = λ w wire c output there at port.
        let old = was wire.from (Rules c) at in
        let box = was_box old.old c old.same in
        before.outputs w wire box.b output there (old.there ∙ ap Some box.is) (ap (λ ports. slice_get ports wire.from_port) (sym box.outs) ∙ port);
  }

-- what holds of each core whose nodes have the same inputs and outputs holds of the one that a step makes
module _ (P : Core → Type 0) (core : Core) (each : (funs : List FunC) (nodes : List NodeC)
    → ((n : ℕ) → BothAt SameEnds (slice_get core.nodes n) (slice_get nodes n)) → P (record core { funs = funs; nodes = nodes })) where
  unchanged : P core
  unchanged = each core.funs core.nodes (λ n. self_at SameEnds (slice_get core.nodes n) (λ node is. same_ends node))

  changed : (funs : List FunC) (n : ℕ) (b c : BoxC) → box_at core n ≡ Some b → c.ins ≡ b.ins → c.outs ≡ b.outs
      → P (record core { funs = funs; nodes = slice_set core.nodes n (Rules c) })
  changed funs n b c there ins outs =
      each funs (slice_set core.nodes n (Rules c))
      (related_at SameEnds core.nodes (λ m node is. same_ends node) n (Rules b) (Rules c) (box_there core n b there) (ins, outs))

  named : (n rule : ℕ) (name : List ℕ) (b : BoxC) → box_at core n ≡ Some b → (o : Option OnlyOutput) → P (named_output core n rule name b o)
  named n rule name b there None = unchanged
  named n rule name b there (Some output) = changed _ n b _ there refl refl

  unfolded : (n rule : ℕ) (b : BoxC) → box_at core n ≡ Some b → (o : Option RuleC) → P (unfolded_core core n rule b o)
  unfolded n rule b there None = unchanged
  unfolded n rule b there (Some new) = changed core.funs n b _ there refl refl

  box_step : (step : Step) (b : BoxC) → box_at core (node_of step) ≡ Some b → P (rewritten_box core step b)
  box_step (Unfold node rule) b there = unfolded node rule b there (unfolded_at core b rule)
  box_step (Swap node rule) b there = changed core.funs node b _ there refl refl
  box_step (Name node rule name) b there = named node rule name b there (output_at b rule)

  step_at : (step : Step) (o : Option BoxC) → box_at core (node_of step) ≡ o → P (rewritten_at core step o)
  step_at step None there = unchanged
  step_at step (Some b) there = box_step step b there

  by_step : (step : Step) → P (rewritten core step)
  by_step step = step_at step (box_at core (node_of step)) refl

pub wiring_kept : (core : Core) (step : Step) → IsOnRule core step → refusal core step ≡ None → IsWired core → IsWired (rewritten core step)
wiring_kept core step on allowed before = by_step IsWired core (λ funs nodes ends. wired core funs nodes ends before) step

pub agreement_kept : (core : Core) (step : Step) → IsOnRule core step → refusal core step ≡ None → WiresAgree core → WiresAgree (rewritten core step)
agreement_kept core step on allowed before = by_step WiresAgree core (λ funs nodes ends. agree core funs nodes ends before) step
