use Rattle.std.proofs.Common.{◌<◌, length, arith}
use Rattle.hume_ports.proofs.Filling.{HasRead-start, HasRead-filled, HasRead-end, filled_within, untouched_after, failed_after, front_after, end_after}
use Rattle.hume_ports.proofs.list.fill_at.Goals as goal

pub loop-filled-init : goal.loop-filled-init
loop-filled-init g c = record { within = omega arith; read = HasRead-start _ _ }

pub loop-filled-preserved : goal.loop-filled-preserved
loop-filled-preserved g c = record {
  within = filled_within _ _ _ _ _ c.loop-filled.invariant.within c.in-Ok.ensures.bound.0;
  read = HasRead-filled _ _ _ _ _ _ _ _ _ _ c.loop-filled.invariant.within c.in-Ok.ensures.bound.0 c.loop-filled.invariant.read
      (record { step = c.in-Ok.ensures.step; same_names = c.in-Ok.ensures.same_names; untouched = c.in-Ok.ensures.untouched })
      c.in-Ok.ensures.taken;
}

pub returns-in-Ok-eq0-clause-taken : goal.returns-in-Ok-eq0-clause-taken
returns-in-Ok-eq0-clause-taken g c = (HasRead-end _ _ _ _ _ _ _ _ _ _ c.loop-filled.invariant.within (omega arith) c.loop-filled.invariant.read
    (record { step = c.in-Ok-eq0.ensures.step; same_names = c.in-Ok-eq0.ensures.same_names; untouched = c.in-Ok-eq0.ensures.untouched })
    c.in-Ok-eq0.ensures.taken).progress

pub returns-in-Ok-eq0-clause-front : goal.returns-in-Ok-eq0-clause-front
returns-in-Ok-eq0-clause-front g c = front_after _ _ _ _ _ (omega arith)
    (HasRead-end _ _ _ _ _ _ _ _ _ _ c.loop-filled.invariant.within (omega arith) c.loop-filled.invariant.read
    (record { step = c.in-Ok-eq0.ensures.step; same_names = c.in-Ok-eq0.ensures.same_names; untouched = c.in-Ok-eq0.ensures.untouched })
    c.in-Ok-eq0.ensures.taken)
    (λ less. end_after _ _ _ _ _ c.loop-filled.invariant.read (c.in-Ok-eq0.ensures.end (omega arith)))

pub returns-in-Ok-eq0-clause-untouched : goal.returns-in-Ok-eq0-clause-untouched
returns-in-Ok-eq0-clause-untouched g c = untouched_after _ _ _ _ _ _ _ c.loop-filled.invariant.read
    (record { step = c.in-Ok-eq0.ensures.step; same_names = c.in-Ok-eq0.ensures.same_names; untouched = c.in-Ok-eq0.ensures.untouched })

pub returns-in-Err-clause-failed : goal.returns-in-Err-clause-failed
returns-in-Err-clause-failed g c =
    let some : 0 < length c.read_at.new.buf = omega arith in
    failed_after _ _ _ _ _ _ _ _ c.loop-filled.invariant.within some c.loop-filled.invariant.read c.in-Err.ensures.failed

pub returns-in-Err-clause-untouched : goal.returns-in-Err-clause-untouched
returns-in-Err-clause-untouched g c = untouched_after _ _ _ _ _ _ _ c.loop-filled.invariant.read
    (record { step = c.in-Err.ensures.step; same_names = c.in-Err.ensures.same_names; untouched = c.in-Err.ensures.untouched })

pub returns-clause-front : goal.returns-clause-front
returns-clause-front g c = front_after _ _ _ _ _ (omega arith) c.loop-filled.invariant.read (λ less. absurd (omega arith))
