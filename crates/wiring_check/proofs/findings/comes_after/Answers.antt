use Rattle.std.proofs.Common.{◌≡◌, ◌∙◌, Some, None, sym}
use Rattle.wiring_check.specs.inner.Slots.{slot, end_node, end_port, ends_at}
use Rattle.wiring_check.proofs.FirstWires.{after_none, after_some}
use Rattle.wiring_check.proofs.SlotSteps.{all_first, ends_here}
use Rattle.wiring_check.proofs.findings.comes_after.Goals as goal

pub returns-in-None : goal.returns-in-None
returns-in-None c =
    let side = c.args.side in
    let wire = c.args.wire.now in
    let none : slot c.args.slots.now (end_node side wire) (end_port side wire) ≡ None = rw (← c.node.ensures, ← c.port.ensures, ← c.get.ensures) c.in-None.is in
    after_none (ends_at side (end_node side wire) (end_port side wire)) c.args.core.now.wires c.args.w (sym (all_first c.args.core.now side c.args.slots.now c.requires.first _ _) ∙ none)

pub returns-in-Some : goal.returns-in-Some
returns-in-Some c =
    let side = c.args.side in
    let wire = c.args.wire.now in
    let first : slot c.args.slots.now (end_node side wire) (end_port side wire) ≡ Some c.in-Some.first = rw (← c.node.ensures, ← c.port.ensures, ← c.get.ensures) c.in-Some.is in
    after_some (ends_at side (end_node side wire) (end_port side wire)) c.args.core.now.wires c.args.w c.in-Some.first wire
    (sym (all_first c.args.core.now side c.args.slots.now c.requires.first _ _) ∙ first) c.requires.there (ends_here side wire)
