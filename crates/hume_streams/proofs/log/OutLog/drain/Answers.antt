use Rattle.std.proofs.Common.{◌∙◌, arith, refl, Ok, Err}
use Rattle.hume_streams.proofs.Draining.{drained_start, drained_more, drained_failed, drained_all, drain_bytes, drain_counts}
use Rattle.hume_streams.proofs.log.OutLog.drain.Goals as goal

pub loop-place-init : goal.loop-place-init
loop-place-init g c = record { drained = drained_start _ _ _ _; clear = c.requires.clear; room = refl }

pub returns-in-Err-clause-lines : goal.returns-in-Err-clause-lines
returns-in-Err-clause-lines g c =
    drained_failed _ _ _ _ _ _ _ _ _ _ c.loop-place.invariant.drained c.at.ensures c.in-Err.ensures.line.1 c.in-Err.ensures.line.2

pub returns-in-Err-clause-bytes : goal.returns-in-Err-clause-bytes
returns-in-Err-clause-bytes g c = λ values are.
    drain_bytes _ _ _ _ _ (Err c.in-Err.failed) values
    (drained_failed _ _ _ _ _ _ _ _ _ _ c.loop-place.invariant.drained c.at.ensures c.in-Err.ensures.line.1 c.in-Err.ensures.line.2) are

pub returns-in-Err-clause-count : goal.returns-in-Err-clause-count
returns-in-Err-clause-count g c =
    drain_counts _ _ _ _ _ (Err c.in-Err.failed)
    (drained_failed _ _ _ _ _ _ _ _ _ _ c.loop-place.invariant.drained c.at.ensures c.in-Err.ensures.line.1 c.in-Err.ensures.line.2)

pub loop-place-preserved : goal.loop-place-preserved
loop-place-preserved g c = record {
  drained = drained_more _ _ _ _ _ _ _ _ _ c.loop-place.invariant.drained c.at.ensures c.in-Ok.ensures.line.1 c.in-Ok.ensures.line.2;
  clear = c.in-Ok.ensures.clear;
  room = c.in-Ok.ensures.room ∙ c.loop-place.invariant.room;
}

pub returns-clause-lines : goal.returns-clause-lines
returns-clause-lines g c = drained_all _ _ _ _ _ _ c.loop-place.invariant.drained (omega (arith, c.count-place-end.ensures, c.loop-place-test.false))

pub returns-clause-bytes : goal.returns-clause-bytes
returns-clause-bytes g c = λ values are.
    drain_bytes _ _ _ _ _ (Ok tt) values (drained_all _ _ _ _ _ _ c.loop-place.invariant.drained (omega (arith, c.count-place-end.ensures, c.loop-place-test.false))) are

pub returns-clause-count : goal.returns-clause-count
returns-clause-count g c = drain_counts _ _ _ _ _ (Ok tt) (drained_all _ _ _ _ _ _ c.loop-place.invariant.drained (omega (arith, c.count-place-end.ensures, c.loop-place-test.false)))
