use Rattle.std.proofs.Common.{◌+◌, ap, Some}
use Rattle.hume_console.specs.Commands.{Step}
use Rattle.hume_console.specs.inner.Asked.{asked_by}
use Rattle.hume_console.proofs.Lent.{answered_back, ends_lent, moment_lent, out_lent}
use Rattle.hume_console.proofs.LinesAnswered.{asked_as, end_answer, out_place, peaks_answer, turn_as, wires_answer}
use Rattle.hume_console.proofs.answering.obey_command.Goals as goal

pub tell_wires-requires-clause-out : goal.tell_wires-requires-clause-out
tell_wires-requires-clause-out g c =
    out_lent _ c.deref_mut.result.now c.args.ports.now.items _ c.deref_mut.ensures.value (out_place _ _ _ _ _ _ _ _ c.requires.at.1.stands)

pub returns-in-Wires-clause-ends : goal.returns-in-Wires-clause-ends
returns-in-Wires-clause-ends g c m at =
    answered_back _ c.args.ports.now.items c.deref_mut.result.now c.tell_wires.new.ports _ c.deref_mut.ensures.len c.deref_mut.ensures.value
    c.tell_wires.ensures.same_names m.call _ m.later c.args.engine.now m.commands c.args.places.now _ _
    (turn_as m.call (m.limit + 64) m.later c.args.engine.now m.commands c.args.places.now _ _ _ c.told.ensures
    (wires_answer m c.args.number c.args.engine.now c.args.places.now _
    (asked_as m c.args.number _ _ c.args.engine.now c.args.places.now _ (ap (λ command. Some (asked_by command)) c.in-Wires.is) at) _ _
    (ends_lent _ c.deref_mut.result.now c.args.ports.now.items _ _ _ c.deref_mut.ensures.value c.tell_wires.ensures.ends)))

pub tell_peaks-requires-clause-out : goal.tell_peaks-requires-clause-out
tell_peaks-requires-clause-out g c =
    out_lent _ c.deref_mut-in-Peaks.result.now c.args.ports.now.items _ c.deref_mut-in-Peaks.ensures.value (out_place _ _ _ _ _ _ _ _ c.requires.at.1.stands)

pub returns-in-Peaks-clause-ends : goal.returns-in-Peaks-clause-ends
returns-in-Peaks-clause-ends g c m at =
    answered_back _ c.args.ports.now.items c.deref_mut-in-Peaks.result.now c.tell_peaks.new.ports _ c.deref_mut-in-Peaks.ensures.len c.deref_mut-in-Peaks.ensures.value
    c.tell_peaks.ensures.same_names m.call _ m.later c.args.engine.now m.commands c.args.places.now _ _
    (turn_as m.call (m.limit + 64) m.later c.args.engine.now m.commands c.args.places.now _ _ _ c.told-in-Peaks.ensures
    (peaks_answer m c.args.number c.args.engine.now c.args.places.now _
    (asked_as m c.args.number _ _ c.args.engine.now c.args.places.now _ (ap (λ command. Some (asked_by command)) c.in-Peaks.is) at) _ _
    (ends_lent _ c.deref_mut-in-Peaks.result.now c.args.ports.now.items _ _ _ c.deref_mut-in-Peaks.ensures.value c.tell_peaks.ensures.ends)))

pub returns-in-End-clause-ends : goal.returns-in-End-clause-ends
returns-in-End-clause-ends g c m at =
    end_answer m c.args.number c.args.engine.now c.args.places.now _ (asked_as m c.args.number _ _ c.args.engine.now c.args.places.now _ (ap (λ command. Some (asked_by command)) c.in-End.is) at)

pub obey_step-requires-clause-at : goal.obey_step-requires-clause-at
obey_step-requires-clause-at g c κs within =
    let m = c.requires.at.0 in (
      m,
      c.args.number,
      _,
      moment_lent _ c.args.ports.now.items c.deref_mut-in-Step.result.now m c.args.number (Some (Step c.in-Step.steps)) c.args.engine.now c.args.places.now _
          c.deref_mut-in-Step.ensures.value
          (asked_as m c.args.number _ (Some (Step c.in-Step.steps)) c.args.engine.now c.args.places.now _ (ap (λ command. Some (asked_by command)) c.in-Step.is) c.requires.at.1),
    )

pub returns-in-Step-clause-ends : goal.returns-in-Step-clause-ends
returns-in-Step-clause-ends g c m at =
    answered_back _ c.args.ports.now.items c.deref_mut-in-Step.result.now c.obey_step.new.ports _ c.deref_mut-in-Step.ensures.len
    c.deref_mut-in-Step.ensures.value c.obey_step.ensures.same_names m.call _ m.later c.obey_step.new.engine m.commands c.args.places.now _ _
    (c.obey_step.ensures.ends m c.args.number _ (moment_lent _ c.args.ports.now.items c.deref_mut-in-Step.result.now m c.args.number (Some (Step c.in-Step.steps)) c.args.engine.now
    c.args.places.now _ c.deref_mut-in-Step.ensures.value
    (asked_as m c.args.number _ (Some (Step c.in-Step.steps)) c.args.engine.now c.args.places.now _ (ap (λ command. Some (asked_by command)) c.in-Step.is) at)))
