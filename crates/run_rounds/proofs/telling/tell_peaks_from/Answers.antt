use Rattle.std.proofs.Common.{◌+◌, arith, refl}
use Rattle.port_acts.proofs.Making.{Made-start}
use Rattle.run_rounds.specs.Telling.{top_there}
use Rattle.run_rounds.proofs.Tellings.{shifted_failed, shifted_made, telling_none, telling_next, telling_failed, telling_over}
use Rattle.run_rounds.proofs.telling.tell_peaks_from.Goals as goal

pub loop-place-init : goal.loop-place-init
loop-place-init g c = telling_none _ _ _ _ _ _ refl refl (Made-start _)

pub tell_peak-requires-clause-there : goal.tell_peak-requires-clause-there
tell_peak-requires-clause-there g c = omega (arith, c.loop-place-test.true, c.requires.within)

pub loop-place-preserved : goal.loop-place-preserved
loop-place-preserved g c =
    telling_next _ _ _ _ (λ n. top_there c.args.engine.now (c.args.first + n)) _ _ c.tell_peak.new.chunk c.loop-place.place c.loop-place.invariant _ c.in-Ok.is
    c.tell_peak.ensures.ends c.tell_peak.ensures.same_names c.tell_peak.ensures.room

pub returns-in-Err-clause-ends : goal.returns-in-Err-clause-ends
returns-in-Err-clause-ends g c =
    shifted_failed c.args.first c.args.count (top_there c.args.engine.now) _ _
    (telling_failed _ _ _ _ (λ n. top_there c.args.engine.now (c.args.first + n)) _ _ c.tell_peak.new.chunk c.loop-place.place c.loop-place.invariant c.args.count
    (omega (arith, c.loop-place-test.true)) _ c.in-Err.failed c.in-Err.is c.tell_peak.ensures.ends)

pub returns-clause-ends : goal.returns-clause-ends
returns-clause-ends g c =
    shifted_made c.args.first c.args.count (top_there c.args.engine.now) _ _
    (telling_over _ _ _ (λ n. top_there c.args.engine.now (c.args.first + n)) _ _ c.loop-place.place c.args.count c.loop-place.invariant
    (omega (arith, c.loop-place-test.false, c.loop-place.auto.place-end)))
