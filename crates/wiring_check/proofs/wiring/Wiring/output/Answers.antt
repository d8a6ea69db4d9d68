use Rattle.std.proofs.Common.{◌∙◌, sym, ap}
use Rattle.wiring_check.specs.Wires.{Wires, wire_at}
use Rattle.wiring_check.proofs.wiring.Wiring.output.Goals as goal

pub returns-clause-is : goal.returns-clause-is
returns-clause-is c core is =
    is.outputs.each c.args.node c.args.output c.wire_in_slot.result
    (ap (λ (wires : Wires). wire_at wires.outputs c.args.node c.args.output) (sym c.self.view_is) ∙ c.wire_in_slot.ensures)
