use Rattle.std.proofs.Common.{◌∙◌, ◌+◌, ap, refl, Ok}
use Rattle.hume_console.specs.declared.answering.Turn.TheVariants.{Continues}
use Rattle.hume_console.proofs.Lent.{answered_back, ends_lent, out_lent}
use Rattle.hume_console.proofs.LinesAnswered.{answer_rooms, are_placed, exchange_answer, exchange_failed, is_runnable, out_place, refused, refused_answer, turn_as}
use Rattle.hume_console.proofs.answering.obey_exchange.Goals as goal

pub exchange-requires-clause-placed : goal.exchange-requires-clause-placed
exchange-requires-clause-placed g c = are_placed _ _ _ _ _ _ _ _ c.requires.at.1.stands

pub exchange-requires-clause-runnable : goal.exchange-requires-clause-runnable
exchange-requires-clause-runnable g c = is_runnable _ _ _ _ _ _ _ _ c.requires.at.1.stands

pub tell_no_exchange-requires-clause-out : goal.tell_no_exchange-requires-clause-out
tell_no_exchange-requires-clause-out g c =
    let m = c.requires.at.0 in
    let at = c.requires.at.1 in
    let goes = refused m c.args.number c.exchange.new.engine c.exchange.new.places _ _
    (c.exchange.ensures.ends m.call m.limit c.args.number m.later m.commands m.bindings at.begins at.stands) (c.in-Ok-false.is ∙ ap Ok c.in-Ok-false.field-0-test) in
    out_lent _ c.deref_mut.result.now c.exchange.new.ports.items _ c.deref_mut.ensures.value (out_place _ _ _ _ _ _ _ _ goes.stands)

pub returns-in-Ok-true-clause-ends : goal.returns-in-Ok-true-clause-ends
returns-in-Ok-true-clause-ends g c m at =
    exchange_answer m c.args.number c.exchange.new.engine c.exchange.new.places _ _
    (c.exchange.ensures.ends m.call m.limit c.args.number m.later m.commands m.bindings at.begins at.stands) (c.in-Ok-true.is ∙ ap Ok c.in-Ok-true.field-0-test)

pub returns-in-Ok-true-clause-rooms : goal.returns-in-Ok-true-clause-rooms
returns-in-Ok-true-clause-rooms g c =
    let m = c.requires.at.0 in
    let at = c.requires.at.1 in
    answer_rooms m.call (m.limit + 64) m.later c.args.engine.now c.exchange.new.engine m.commands c.exchange.new.places _ c.args.chunk.now c.args.chunk.now (Ok Continues) c.requires.rooms
    at.stands.rests.is_core refl
    (exchange_answer m c.args.number c.exchange.new.engine c.exchange.new.places _ _
    (c.exchange.ensures.ends m.call m.limit c.args.number m.later m.commands m.bindings at.begins at.stands) (c.in-Ok-true.is ∙ ap Ok c.in-Ok-true.field-0-test))

pub returns-in-Ok-false-clause-ends : goal.returns-in-Ok-false-clause-ends
returns-in-Ok-false-clause-ends g c m at =
    answered_back _ c.exchange.new.ports.items c.deref_mut.result.now c.tell_no_exchange.new.ports _ c.deref_mut.ensures.len c.deref_mut.ensures.value
    c.tell_no_exchange.ensures.same_names m.call _ m.later c.exchange.new.engine m.commands c.exchange.new.places _ _
    (turn_as m.call (m.limit + 64) m.later c.exchange.new.engine m.commands c.exchange.new.places _ _ _ c.told.ensures
    (refused_answer m c.args.number c.exchange.new.engine c.exchange.new.places _ _
    (c.exchange.ensures.ends m.call m.limit c.args.number m.later m.commands m.bindings at.begins at.stands) at.begins at.most
    (c.in-Ok-false.is ∙ ap Ok c.in-Ok-false.field-0-test) _ _
    (ends_lent _ c.deref_mut.result.now c.exchange.new.ports.items _ _ _ c.deref_mut.ensures.value c.tell_no_exchange.ensures.ends)))

pub returns-in-Ok-false-clause-rooms : goal.returns-in-Ok-false-clause-rooms
returns-in-Ok-false-clause-rooms g c =
    let m = c.requires.at.0 in
    let at = c.requires.at.1 in
    answer_rooms m.call (m.limit + 64) m.later c.args.engine.now c.exchange.new.engine m.commands c.exchange.new.places _ c.args.chunk.now c.tell_no_exchange.new.chunk _ c.requires.rooms
    at.stands.rests.is_core c.tell_no_exchange.ensures.room
    (turn_as m.call (m.limit + 64) m.later c.exchange.new.engine m.commands c.exchange.new.places _ _ _ c.told.ensures
    (refused_answer m c.args.number c.exchange.new.engine c.exchange.new.places _ _
    (c.exchange.ensures.ends m.call m.limit c.args.number m.later m.commands m.bindings at.begins at.stands) at.begins at.most
    (c.in-Ok-false.is ∙ ap Ok c.in-Ok-false.field-0-test) _ _
    (ends_lent _ c.deref_mut.result.now c.exchange.new.ports.items _ _ _ c.deref_mut.ensures.value c.tell_no_exchange.ensures.ends)))

pub returns-in-Err-clause-ends : goal.returns-in-Err-clause-ends
returns-in-Err-clause-ends g c m at =
    exchange_failed m c.args.number c.exchange.new.engine c.exchange.new.places _ _
    (c.exchange.ensures.ends m.call m.limit c.args.number m.later m.commands m.bindings at.begins at.stands) c.in-Err.failed c.in-Err.is
