use Rattle.std.proofs.Common.{refl, ◌∙◌, arith}
use Rattle.hume_streams.proofs.places_lemmas.LinesInTurn.{none_drained, one_drained, one_undrained, all_drained}
use Rattle.hume_streams.proofs.places.draining.drain_at.Goals as goal

pub loop-place-init : goal.loop-place-init
loop-place-init g c = (none_drained _ _ _ _ _, c.requires.clear, refl)

pub returns-in-Err-clause-ends : goal.returns-in-Err-clause-ends
returns-in-Err-clause-ends g c =
    one_undrained _ _ _ _ _ _ _ _ _ _ c.at.ensures c.in-Err.ensures.ends.1 c.loop-place.invariant.0 c.in-Err.ensures.ends.2

pub loop-place-preserved : goal.loop-place-preserved
loop-place-preserved g c = (
  one_drained _ _ _ _ _ _ _ _ _ _ c.at.ensures c.in-Ok.ensures.ends.1 c.loop-place.invariant.0 c.in-Ok.ensures.ends.2 c.in-Ok.ensures.same_names,
  c.in-Ok.ensures.clear,
  c.in-Ok.ensures.room ∙ c.loop-place.invariant.2,
)

pub returns-clause-ends : goal.returns-clause-ends
returns-clause-ends g c = all_drained _ _ _ _ _ _ _ (omega (arith, c.loop-place-test.false, c.count-place-end.ensures)) c.loop-place.invariant.0
