use Rattle.std.proofs.Common.{refl, arith}
use Rattle.port_acts.proofs.Finishing.{none_finished, one_finished, one_fails, all_finished}
use Rattle.port_acts.proofs.acts.finish_acts.Goals as goal

pub loop-at-init : goal.loop-at-init
loop-at-init g c = none_finished _ _

pub loop-at-preserved : goal.loop-at-preserved
loop-at-preserved g c = one_finished _ _ _ _ _ _ c.loop-at-test.true refl c.loop-at.invariant c.in-Ok.ensures.ends c.in-Ok.ensures.same_names

pub returns-in-Err-clause-ends : goal.returns-in-Err-clause-ends
returns-in-Err-clause-ends g c = one_fails _ _ _ _ _ _ c.loop-at-test.true refl c.loop-at.invariant c.in-Err.ensures.ends

pub returns-clause-ends : goal.returns-clause-ends
returns-clause-ends g c = all_finished _ _ _ _ (omega arith) c.loop-at.invariant
