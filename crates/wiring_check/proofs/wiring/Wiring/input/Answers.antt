use Rattle.std.proofs.Common.{◌∙◌, sym, ap}
use Rattle.wiring_check.specs.Wires.{Wires, wire_at}
use Rattle.wiring_check.proofs.wiring.Wiring.input.Goals as goal

pub returns-clause-is : goal.returns-clause-is
returns-clause-is c core is =
    is.inputs.each c.args.node c.args.input c.wire_in_slot.result
    (ap (λ (wires : Wires). wire_at wires.inputs c.args.node c.args.input) (sym c.self.view_is) ∙ c.wire_in_slot.ensures)
