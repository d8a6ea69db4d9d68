use Rattle.std.proofs.Common.{◌+◌, ap}
use Rattle.std.specs.Option.{option_map}
use Rattle.hume_console.specs.inner.Asked.{asked_by}
use Rattle.hume_console.proofs.Lent.{answered_back, ends_lent, out_lent}
use Rattle.hume_console.proofs.LinesAnswered.{asked_as, no_command_answer, out_place, turn_as}
use Rattle.hume_console.proofs.answering.obey.Goals as goal

pub tell_no_command-requires-clause-out : goal.tell_no_command-requires-clause-out
tell_no_command-requires-clause-out g c =
    out_lent _ c.deref_mut.result.now c.args.ports.now.items _ c.deref_mut.ensures.value (out_place _ _ _ _ _ _ _ _ c.requires.at.1.stands)

pub returns-in-None-clause-ends : goal.returns-in-None-clause-ends
returns-in-None-clause-ends g c m at =
    answered_back _ c.args.ports.now.items c.deref_mut.result.now c.tell_no_command.new.ports _ c.deref_mut.ensures.len c.deref_mut.ensures.value
    c.tell_no_command.ensures.same_names m.call _ m.later c.args.engine.now m.commands c.args.places.now _ _
    (turn_as m.call (m.limit + 64) m.later c.args.engine.now m.commands c.args.places.now _ _ _ c.told.ensures
    (no_command_answer m c.args.number c.args.engine.now c.args.places.now _
    (asked_as m c.args.number _ _ c.args.engine.now c.args.places.now _ (ap (option_map asked_by) c.in-None.is) at) _ _
    (ends_lent _ c.deref_mut.result.now c.args.ports.now.items _ _ _ c.deref_mut.ensures.value c.tell_no_command.ensures.ends)))
