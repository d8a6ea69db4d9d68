use Rattle.std.proofs.Common.{inl, refl}
use Rattle.union_front.proofs.Sound.{costs_break}
use Rattle.union_front.proofs.uniting.bounds_of.Goals as goal

pub returns-in-Err-Refused-clause-refused : goal.returns-in-Err-Refused-clause-refused
returns-in-Err-Refused-clause-refused c =
    inl (refl, λ fine. costs_break c.args.core.now c.in-Err-Refused.field-0 c.in-Err-Refused.field-0-0 c.in-Err-Refused.field-0-is c.in-Err-Refused.ensures.refused fine)
