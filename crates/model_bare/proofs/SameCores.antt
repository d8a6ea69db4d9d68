-- The bare form of a core has the same wires, and at each place the bare form of the node.
use Rattle.std.proofs.Common.{◌≡◌, ℕ, ◌<◌, length, Some, slice_get, ap, sym, ◌∙◌, subst}
use Rattle.std.proofs.lemmas.List.{length-map}
use Rattle.hume_model.specs.declared.core_tree.BoxC.{BoxC}
use Rattle.hume_model.specs.declared.core_tree.NodeC.{NodeC}
use Rattle.hume_model.specs.declared.core_tree.NodeC.TheVariants.{Rules, From, To}
use Rattle.hume_model.specs.declared.core_tree.Core.{Core}
use Rattle.hume_model.specs.Wiring.{IsWired, WiresAgree, inputs_of, outputs_of}
use Rattle.model_bare.specs.Bare.{bare_box, bare_node, bare_of}
use Rattle.model_bare.proofs.Frames.{was_there, there, same_inputs, same_outputs}

pub same_count : (core : Core) → length (bare_of core).nodes ≡ length core.nodes
same_count core = length-map core.nodes bare_node

pub node_there : (core : Core) (n : ℕ) (node : NodeC) → slice_get core.nodes n ≡ Some node → slice_get (bare_of core).nodes n ≡ Some (bare_node node)
node_there core n node at = there bare_node core.nodes n node at

pub node_was_there : (core : Core) (n : ℕ) (its : NodeC) → slice_get (bare_of core).nodes n ≡ Some its
    → (node : NodeC) × (slice_get core.nodes n ≡ Some node) × (bare_node node ≡ its)
node_was_there core n its at = was_there bare_node core.nodes n its at

pub box_was_there : (core : Core) (n : ℕ) (its : BoxC) → slice_get (bare_of core).nodes n ≡ Some (Rules its)
    → (b : BoxC) × (slice_get core.nodes n ≡ Some (Rules b)) × (bare_box b ≡ its)
box_was_there core n its at = by (was_there bare_node core.nodes n (Rules its) at)
  where
    by : (node : NodeC) × (slice_get core.nodes n ≡ Some node) × (bare_node node ≡ Rules its) → (b : BoxC) × (slice_get core.nodes n ≡ Some (Rules b)) ×
        (bare_box b ≡ its)
    by (Rules b, here, same) = (b, here, (let is : bare_box b ≡ its = cc in is))
    by (From stream, here, same) = cc
    by (To stream, here, same) = cc

-- wired

pub bare_wired : (core : Core) → IsWired core → IsWired (bare_of core)
bare_wired core wired = record {
  inputs = λ n input its at within.
      let was = was_there bare_node core.nodes n its at in
      wired.inputs n input was.0 was.1 (subst (λ k. input < k) (ap inputs_of (sym was.2) ∙ same_inputs was.0) within);
  outputs = λ n output its at within.
      let was = was_there bare_node core.nodes n its at in
      wired.outputs n output was.0 was.1 (subst (λ k. output < k) (ap outputs_of (sym was.2) ∙ same_outputs was.0) within);
}

pub whole_wired : (core : Core) → IsWired (bare_of core) → IsWired core
whole_wired core wired = record {
  inputs = λ n input node at within. wired.inputs n input (bare_node node) (there bare_node core.nodes n node at) (subst (λ k. input < k) (sym
      (same_inputs node)) within);
  outputs = λ n output node at within. wired.outputs n output (bare_node node) (there bare_node core.nodes n node at) (subst (λ k. output < k) (sym
      (same_outputs node)) within);
}

-- types of wires

pub bare_agree : (core : Core) → WiresAgree core → WiresAgree (bare_of core)
bare_agree core agree = record {
  consumers = agree.consumers;
  producers = agree.producers;
  inputs = λ w wire its input found at here.
      let was = box_was_there core wire.to its at in
      agree.inputs w wire was.0 input found was.1 (ap (λ (b : BoxC). slice_get b.ins wire.to_port) was.2 ∙ here);
  outputs = λ w wire its output found at here.
      let was = box_was_there core wire.from its at in
      agree.outputs w wire was.0 output found was.1 (ap (λ (b : BoxC). slice_get b.outs wire.from_port) was.2 ∙ here);
}

pub whole_agree : (core : Core) → WiresAgree (bare_of core) → WiresAgree core
whole_agree core agree = record {
  consumers = agree.consumers;
  producers = agree.producers;
  inputs = λ w wire b input found at here. agree.inputs w wire (bare_box b) input found (there bare_node core.nodes wire.to (Rules b) at) here;
  outputs = λ w wire b output found at here. agree.outputs w wire (bare_box b) output found (there bare_node core.nodes wire.from (Rules b) at) here;
}
