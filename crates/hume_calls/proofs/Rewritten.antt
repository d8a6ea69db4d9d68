-- The core that a script makes of the core of a sound source can be run.
use Rattle.std.proofs.Common.{◌≡◌, Bool, ℕ, ◌<◌, ◌≤◌, List, length, Option, Some, None, Ok, slice_get, refl, ap, sym, ◌∙◌, subst}
use Rattle.std.specs.Option.{option_map}
use Rattle.std.proofs.lemmas.Option.{slice_get-map}
use Rattle.hume_base.specs.declared.limits.TheConstants.{MAX_NODES}
use Rattle.hume_base.specs.Least.{IsLeast}
use Rattle.hume_model.specs.declared.core_tree.NodeC.{NodeC}
use Rattle.hume_model.specs.declared.core_tree.NodeC.TheVariants.{Rules, From, To}
use Rattle.hume_model.specs.declared.core_tree.WireC.{WireC}
use Rattle.hume_model.specs.declared.core_tree.Core.{Core}
use Rattle.hume_model.specs.WellFormed.{IsWellFormed}
use Rattle.hume_model.specs.Wiring.{inputs_of, outputs_of, leads_to, comes_from, IsTheWire}
use Rattle.hume_net.specs.StatePlaces.{BoxesHandleAll}
use Rattle.hume_text.specs.Names.{HaveNames}
use Rattle.box_costs.specs.declared.cost.Cost.{Cost}
use Rattle.box_costs.specs.CostRules.{BreaksCosts}
use Rattle.space_costs.specs.NodeCosts.{AreCosts}
use Rattle.wiring_check.specs.Wires.{Wires, AreTheWires, IsWiringOf}
use Rattle.calculus_laws.specs.Boxes.{without_rules}
use Rattle.box_calculus.specs.Kept.{HasSameNet}
use Rattle.box_calculus.specs.Scripts.{scripted}
use Rattle.box_calculus.proofs.KeptByLines.{same_nets, still_agree, still_formed, still_handled, still_wired}
use Rattle.hume_front.specs.declared.acceptance.Sound.{Sound}
use Rattle.hume_front.specs.Accepted.{IsSound}
use Rattle.hume_front.proofs.Sources.{sound_check, sound_formed, sound_handlers, sound_wired}
use Rattle.hume_front.proofs.printable_lemmas.NamedConstructors.{have_names}
use Rattle.hume_front.proofs.printable_lemmas.Printable.{printable}
use Rattle.phase_workers.specs.Runnable.{IsRunnable}
use Rattle.hume_calls.specs.Ready.{IsReady}

-- where a node stands, there stood one that is the same but for rules
pub record Stood (core : Core) (n : ℕ) (node : NodeC) : Type 0 where
  pub old : NodeC
  pub there : slice_get core.nodes n ≡ Some old
  pub same : without_rules node ≡ without_rules old

stood_at : (core : Core) (n : ℕ) (node : NodeC) (o : Option NodeC) → slice_get core.nodes n ≡ o → Some (without_rules node) ≡ option_map without_rules o
    → Stood core n node
stood_at core n node None there is = cc
stood_at core n node (Some old) there is = record { old = old; there = there; same = (let same : without_rules node ≡ without_rules old = cc in same) }

module _ (core new : Core) (net : HasSameNet core new) where
  pub stood : (n : ℕ) (node : NodeC) → slice_get new.nodes n ≡ Some node → Stood core n node
  stood n node there =
      stood_at core n node (slice_get core.nodes n) refl
      (sym (ap (option_map without_rules) there) ∙ sym (slice_get-map without_rules new.nodes n) ∙ ap (λ nodes. slice_get nodes n) net.nodes
      ∙ slice_get-map without_rules core.nodes n)

  -- the wires of ports that don't depend on rules stay
  wires_of : (ports : NodeC → ℕ) → ((node : NodeC) → ports (without_rules node) ≡ ports node) → (ends_at : ℕ → ℕ → WireC → Bool) (wires : List (List ℕ))
      → AreTheWires core ports ends_at wires → AreTheWires new ports ends_at wires
  wires_of ports alike ends_at wires are = record {
    positions = λ n i node there within.
        let was = stood n node there in
        are.positions n i was.old was.there (subst (λ count. i < count) (sym (alike node) ∙ ap ports was.same ∙ alike was.old) within);
    each = λ n i w there. subst (λ all. IsTheWire (ends_at n i) all w) (sym net.wires) (are.each n i w there);
  }

  inputs_alike : (node : NodeC) → inputs_of (without_rules node) ≡ inputs_of node
  inputs_alike (Rules b) = refl
  inputs_alike (From stream) = refl
  inputs_alike (To stream) = refl

  outputs_alike : (node : NodeC) → outputs_of (without_rules node) ≡ outputs_of node
  outputs_alike (Rules b) = refl
  outputs_alike (From stream) = refl
  outputs_alike (To stream) = refl

  pub same_wiring : (wiring : Wires) → IsWiringOf core wiring → IsWiringOf new wiring
  same_wiring wiring is = record {
    inputs = wires_of inputs_of inputs_alike leads_to wiring.inputs is.inputs;
    outputs = wires_of outputs_of outputs_alike comes_from wiring.outputs is.outputs;
  }

module _ (text : List ℕ) (sound : Sound) (h : IsSound text sound) (script : List ℕ) (new : Core) (made : scripted sound.core script ≡ Ok new) where
  net : HasSameNet sound.core new
  net = same_nets sound.core new script made

  pub new_formed : IsWellFormed new
  new_formed = still_formed sound.core new script (sound_formed text sound h) made

  names : HaveNames sound.core.types
  names = have_names text h.program.tokens sound.program sound.core h.program.read h.program.spelled (sound_check text sound h) h.core

  pub new_runnable : IsRunnable new
  new_runnable =
      let wires = sound_wired text sound h in
      record {
        formed = new_formed;
        wired = still_wired sound.core new script wires.0 made;
        agree = still_agree sound.core new script wires.1 made;
        names = subst HaveNames (sym net.types) names;
        printable = printable new new_formed;
      }

  pub new_handles : BoxesHandleAll new
  new_handles = still_handled sound.core new script (sound_formed text sound h) (sound_handlers text sound h) made

  pub new_wiring : IsWiringOf new sound.wiring
  new_wiring = same_wiring sound.core new net sound.wiring h.wiring

-- a core with its costs that keep the limits is ready
pub new_ready : (core : Core) (wiring : Wires) (costs : List Cost) → IsRunnable core → BoxesHandleAll core → IsWiringOf core wiring → AreCosts core costs
    → IsLeast (BreaksCosts core) None → IsReady (record { core = core; wiring = wiring; costs = costs })
new_ready core wiring costs runnable handles its are within = record {
  runnable = runnable;
  handles = handles;
  wiring = its;
  bounds = record { frame = runnable.formed.frame; are = are; within = within };
}

-- the core of a sound source has few nodes
pub few_nodes : (text : List ℕ) (sound : Sound) → IsSound text sound → length sound.core.nodes ≤ MAX_NODES
few_nodes text sound h = (sound_formed text sound h).frame.limits.nodes
