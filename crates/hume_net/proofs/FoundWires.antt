-- Wires are found at their ends.
use Rattle.std.proofs.Common.{◌≡◌, ◌==◌, ◌<◌, ℕ, Some, slice_get, refl, ap, sym, ◌∙◌}
use Rattle.std.proofs.lemmas.Bool.{and_parts, and_from, eqb-true, eq-eqb}
use Rattle.hume_model.specs.declared.core_tree.NodeC.{NodeC}
use Rattle.hume_model.specs.declared.core_tree.WireC.{WireC}
use Rattle.hume_model.specs.declared.core_tree.Core.{Core}
use Rattle.hume_model.specs.WellFormed.{HasSoundFrame}
use Rattle.hume_model.specs.Wiring.{inputs_of, outputs_of, leads_to, comes_from, IsTheWire, IsWired}
use Rattle.hume_net.specs.Sides.{wire_to, wire_from}
use Rattle.hume_net.proofs.FirstFound.{position_at, position_is}

pub to_is : (core : Core) (n input w : ℕ) → IsTheWire (leads_to n input) core.wires w → wire_to core n input ≡ Some w
to_is core n input w the = position_is (leads_to n input) core.wires w the

pub from_is : (core : Core) (n output w : ℕ) → IsTheWire (comes_from n output) core.wires w → wire_from core n output ≡ Some w
from_is core n output w the = position_is (comes_from n output) core.wires w the

pub to_leads : (core : Core) (n input w : ℕ) → wire_to core n input ≡ Some w
    → (wire : WireC) × (slice_get core.wires w ≡ Some wire) × (wire.to ≡ n) × (wire.to_port ≡ input)
to_leads core n input w at =
    let found = position_at (leads_to n input) core.wires w at in
    let ends = and_parts (found.0.to == n) (found.0.to_port == input) found.2 in
    (found.0, found.1, eqb-true found.0.to n ends.0, eqb-true found.0.to_port input ends.1)

pub from_comes : (core : Core) (n output w : ℕ) → wire_from core n output ≡ Some w
    → (wire : WireC) × (slice_get core.wires w ≡ Some wire) × (wire.from ≡ n) × (wire.from_port ≡ output)
from_comes core n output w at =
    let found = position_at (comes_from n output) core.wires w at in
    let ends = and_parts (found.0.from == n) (found.0.from_port == output) found.2 in
    (found.0, found.1, eqb-true found.0.from n ends.0, eqb-true found.0.from_port output ends.1)

module _ (core : Core) (wired : IsWired core) where
  pub to_each : (n input : ℕ) (node : NodeC) → slice_get core.nodes n ≡ Some node → input < inputs_of node → (w : ℕ) × (wire_to core n input ≡ Some w)
  to_each n input node there within = let one = wired.inputs n input node there within in (one.0, to_is core n input one.0 one.1)

  pub from_each : (n output : ℕ) (node : NodeC) → slice_get core.nodes n ≡ Some node → output < outputs_of node → (w : ℕ) × (wire_from core n output ≡ Some w)
  from_each n output node there within = let one = wired.outputs n output node there within in (one.0, from_is core n output one.0 one.1)

  module _ (frame : HasSoundFrame core) (w : ℕ) (wire : WireC) (found : slice_get core.wires w ≡ Some wire) where
    pub to_own : wire_to core wire.to wire.to_port ≡ Some w
    to_own =
        let ends = frame.wires w wire found in
        let one = wired.inputs wire.to wire.to_port ends.consumer ends.to ends.to_port in
        let passes = and_from (wire.to == wire.to) (wire.to_port == wire.to_port) (eq-eqb wire.to wire.to refl) (eq-eqb wire.to_port wire.to_port refl) in
        to_is core wire.to wire.to_port one.0 one.1 ∙ ap Some (sym (one.1.alone w wire found passes))

    pub from_own : wire_from core wire.from wire.from_port ≡ Some w
    from_own =
        let ends = frame.wires w wire found in
        let one = wired.outputs wire.from wire.from_port ends.producer ends.from ends.from_port in
        let passes = and_from (wire.from == wire.from) (wire.from_port == wire.from_port) (eq-eqb wire.from wire.from refl)
        (eq-eqb wire.from_port wire.from_port refl) in
        from_is core wire.from wire.from_port one.0 one.1 ∙ ap Some (sym (one.1.alone w wire found passes))
