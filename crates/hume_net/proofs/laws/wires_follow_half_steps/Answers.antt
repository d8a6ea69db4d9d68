use Rattle.hume_net.proofs.Times.{wire_after_even, wire_after_odd}
use Rattle.hume_net.proofs.laws.wires_follow_half_steps.Goals as goal

pub returns-clause-even : goal.returns-clause-even
returns-clause-even c = wire_after_even

pub returns-clause-odd : goal.returns-clause-odd
returns-clause-odd c = wire_after_odd
