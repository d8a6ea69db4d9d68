use Rattle.union_front.proofs.Sound.{wires_break}
use Rattle.union_front.proofs.uniting.wiring_of.Goals as goal

pub unreachable-requires : goal.unreachable-requires
unreachable-requires c =
    wires_break c.args.core.now c.in-Err-Refused.field-0 c.in-Err-Refused.field-0-0 c.in-Err-Refused.field-0-is c.in-Err-Refused.ensures.refused c.requires.fine
