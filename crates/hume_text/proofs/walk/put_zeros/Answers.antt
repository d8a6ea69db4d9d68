use Rattle.std.proofs.Common.{◌∙◌, arith}
use Rattle.hume_text.proofs.Reading.{zeros-next}
use Rattle.hume_text.proofs.walk.put_zeros.Goals as goal

pub loop-place-preserved : goal.loop-place-preserved
loop-place-preserved c =
    record {
      room = c.put_word.ensures.room ∙ c.loop-place.invariant.room;
      within = omega (arith, c.in-Some.ensures.within, c.loop-place.invariant.room);
      onward = omega (arith, c.in-Some.ensures.onward, c.loop-place.invariant.onward);
      read = zeros-next _ _ _ _ _ _ _ _ _ c.loop-place.invariant.room (omega (arith, c.loop-place-test.true)) c.in-Some.ensures.read c.loop-place.invariant.read;
    }
