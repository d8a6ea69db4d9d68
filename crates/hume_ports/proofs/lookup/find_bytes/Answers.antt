use Rattle.std.proofs.Common.{arith, ◌∙◌, sym}
use Rattle.hume_ports.proofs.Places.{found, passed, missing}
use Rattle.hume_ports.proofs.lookup.find_bytes.Goals as goal

pub returns-then-has_name-clause-place : goal.returns-then-has_name-clause-place
returns-then-has_name-clause-place g c = found _ _ _ _ _ c.loop-at.invariant c.loop-at-test.true c.index-ports-at.is (sym c.has_name.ensures ∙ c.if-has_name.true)

pub loop-at-preserved : goal.loop-at-preserved
loop-at-preserved g c = passed _ _ _ _ _ c.loop-at.invariant c.loop-at-test.true c.index-ports-at.is (sym c.has_name.ensures ∙ c.if-has_name.false)

pub returns-clause-place : goal.returns-clause-place
returns-clause-place g c = missing _ _ _ _ c.loop-at.invariant (omega arith)
