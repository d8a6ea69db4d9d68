use Rattle.std.proofs.Common.{Err}
use Rattle.hume_console.proofs.Serves.{closed_back, closed_lent, told_back, unclosed_back}
use Rattle.hume_console.proofs.SessionTold.{lines_as}
use Rattle.hume_console.proofs.serving.serve.Goals as goal

pub returns-in-Err-run : goal.returns-in-Err-run
returns-in-Err-run g c call begun opens =
    lines_as call c.run.new.self _ c.run.result (Err c.in-Err-run.failed) c.in-Err-run.is
    (c.run.ensures.ends call
    (told_back _ c.args.ports.now.items c.deref_mut.result.now c.tell_table.new.ports _ c.deref_mut.ensures.len c.deref_mut.ensures.value
    c.tell_table.ensures.same_names call _ c.tell_table.new.opened.session c.args.opened.now.session.places c.tell_table.result
    (λ lent. c.tell_table.ensures.ends call _ lent opens) begun c.in-Ok.field-0 c.in-Ok.is))

pub finish-requires : goal.finish-requires
finish-requires g c =
    let r = c.requires.begun in
    record {
      at = (
        r.0,
        c.in-Ok-run.ending,
        _,
        closed_lent _ c.run.new.ports.items c.deref_mut-2.result.now r.0 c.run.new.self _ c.deref_mut-2.ensures.value c.run.result c.in-Ok-run.ending c.in-Ok-run.is
            (c.run.ensures.ends r.0
            (told_back _ c.args.ports.now.items c.deref_mut.result.now c.tell_table.new.ports _ c.deref_mut.ensures.len c.deref_mut.ensures.value
            c.tell_table.ensures.same_names r.0 _ c.tell_table.new.opened.session c.args.opened.now.session.places c.tell_table.result
            (λ lent. c.tell_table.ensures.ends r.0 _ lent r.2) r.1 c.in-Ok.field-0 c.in-Ok.is)),
      );
    }

pub returns-in-Ok-finish : goal.returns-in-Ok-finish
returns-in-Ok-finish g c call begun opens =
    closed_back _ c.run.new.ports.items c.deref_mut-2.result.now c.finish.new.ports _ c.deref_mut-2.ensures.len c.deref_mut-2.ensures.value
    c.finish.ensures.same_names call _ c.in-Ok-run.ending c.finish.result
    (c.finish.ensures.ends call c.in-Ok-run.ending _
    (closed_lent _ c.run.new.ports.items c.deref_mut-2.result.now call c.run.new.self _ c.deref_mut-2.ensures.value c.run.result c.in-Ok-run.ending c.in-Ok-run.is
    (c.run.ensures.ends call
    (told_back _ c.args.ports.now.items c.deref_mut.result.now c.tell_table.new.ports _ c.deref_mut.ensures.len c.deref_mut.ensures.value
    c.tell_table.ensures.same_names call _ c.tell_table.new.opened.session c.args.opened.now.session.places c.tell_table.result
    (λ lent. c.tell_table.ensures.ends call _ lent opens) begun c.in-Ok.field-0 c.in-Ok.is))))
    c.in-Ok-finish.field-0 c.in-Ok-finish.is

pub returns-in-Err-finish : goal.returns-in-Err-finish
returns-in-Err-finish g c call begun opens =
    unclosed_back _ c.run.new.ports.items c.deref_mut-2.result.now c.finish.new.ports _ c.deref_mut-2.ensures.len c.deref_mut-2.ensures.value
    c.finish.ensures.same_names call _ c.in-Ok-run.ending c.finish.result
    (c.finish.ensures.ends call c.in-Ok-run.ending _
    (closed_lent _ c.run.new.ports.items c.deref_mut-2.result.now call c.run.new.self _ c.deref_mut-2.ensures.value c.run.result c.in-Ok-run.ending c.in-Ok-run.is
    (c.run.ensures.ends call
    (told_back _ c.args.ports.now.items c.deref_mut.result.now c.tell_table.new.ports _ c.deref_mut.ensures.len c.deref_mut.ensures.value
    c.tell_table.ensures.same_names call _ c.tell_table.new.opened.session c.args.opened.now.session.places c.tell_table.result
    (λ lent. c.tell_table.ensures.ends call _ lent opens) begun c.in-Ok.field-0 c.in-Ok.is))))
    c.in-Err-finish.failed c.in-Err-finish.is
