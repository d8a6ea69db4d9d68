use Rattle.std.proofs.Common.{◌∙◌, ap, Ok}
use Rattle.hume_console.proofs.SessionTold.{at_lent, bad_lent, lines_as, lines_back, next_as, next_back}
use Rattle.hume_console.proofs.session.Session.answer_line.Goals as goal

pub read_line-requires-clause-at : goal.read_line-requires-clause-at
read_line-requires-clause-at g c =
    let at = c.requires.at in
    (at.0, _, at_lent _ c.args.ports.now.items c.deref_mut.result.now at.0 c.args.number c.args.self.now _ c.deref_mut.ensures.value at.1)

pub tell_bad-requires-clause-at : goal.tell_bad-requires-clause-at
tell_bad-requires-clause-at g c =
    let at = c.requires.at in (
      at.0,
      _,
      bad_lent _ _ c.deref_mut-in-Ok-TooLong.result.now at.0 c.args.number c.read_line.new.self _ c.deref_mut-in-Ok-TooLong.ensures.value
          (next_as at.0 c.args.number c.read_line.new.self _ _ _ (c.in-Ok-TooLong.is ∙ ap Ok c.in-Ok-TooLong.field-0-is)
          (next_back _ c.args.ports.now.items c.deref_mut.result.now c.read_line.new.ports _ c.deref_mut.ensures.len c.deref_mut.ensures.value
          c.read_line.ensures.same_names at.0 c.args.number c.read_line.new.self _ _
          (c.read_line.ensures.ends at.0 _
          (at_lent _ c.args.ports.now.items c.deref_mut.result.now at.0 c.args.number c.args.self.now _ c.deref_mut.ensures.value at.1)))),
    )

pub answer-requires-clause-at : goal.answer-requires-clause-at
answer-requires-clause-at g c κs within =
    let at = c.requires.at in (
      at.0,
      (next_as at.0 c.args.number c.read_line.new.self _ _ _ (c.in-Ok-Line.is ∙ ap Ok c.in-Ok-Line.field-0-is)
          (next_back _ c.args.ports.now.items c.deref_mut.result.now c.read_line.new.ports _ c.deref_mut.ensures.len c.deref_mut.ensures.value
          c.read_line.ensures.same_names at.0 c.args.number c.read_line.new.self _ _
          (c.read_line.ensures.ends at.0 _
          (at_lent _ c.args.ports.now.items c.deref_mut.result.now at.0 c.args.number c.args.self.now _ c.deref_mut.ensures.value at.1)))).few c.requires.number,
    )

pub returns-in-Ok-End-clause-ends : goal.returns-in-Ok-End-clause-ends
returns-in-Ok-End-clause-ends g c call at =
    next_as call c.args.number c.read_line.new.self _ _ _ (c.in-Ok-End.is ∙ ap Ok c.in-Ok-End.field-0-is)
    (next_back _ c.args.ports.now.items c.deref_mut.result.now c.read_line.new.ports _ c.deref_mut.ensures.len c.deref_mut.ensures.value
    c.read_line.ensures.same_names call c.args.number c.read_line.new.self _ _
    (c.read_line.ensures.ends call _
    (at_lent _ c.args.ports.now.items c.deref_mut.result.now call c.args.number c.args.self.now _ c.deref_mut.ensures.value at)))

pub returns-in-Ok-clause-ends : goal.returns-in-Ok-clause-ends
returns-in-Ok-clause-ends g c call at =
    lines_as call c.tell_bad.new.self _ _ _ c.in-Ok.is
    (lines_back _ _ c.deref_mut-in-Ok-TooLong.result.now c.tell_bad.new.ports _ c.deref_mut-in-Ok-TooLong.ensures.len c.deref_mut-in-Ok-TooLong.ensures.value
    c.tell_bad.ensures.same_names call c.args.number c.tell_bad.new.self _ _
    (c.tell_bad.ensures.ends call _
    (bad_lent _ _ c.deref_mut-in-Ok-TooLong.result.now call c.args.number c.read_line.new.self _ c.deref_mut-in-Ok-TooLong.ensures.value
    (next_as call c.args.number c.read_line.new.self _ _ _ (c.in-Ok-TooLong.is ∙ ap Ok c.in-Ok-TooLong.field-0-is)
    (next_back _ c.args.ports.now.items c.deref_mut.result.now c.read_line.new.ports _ c.deref_mut.ensures.len c.deref_mut.ensures.value
    c.read_line.ensures.same_names call c.args.number c.read_line.new.self _ _
    (c.read_line.ensures.ends call _
    (at_lent _ c.args.ports.now.items c.deref_mut.result.now call c.args.number c.args.self.now _ c.deref_mut.ensures.value at)))))))

pub returns-in-Err-tell_bad-clause-ends : goal.returns-in-Err-tell_bad-clause-ends
returns-in-Err-tell_bad-clause-ends g c call at =
    lines_as call c.tell_bad.new.self _ _ _ c.in-Err-tell_bad.is
    (lines_back _ _ c.deref_mut-in-Ok-TooLong.result.now c.tell_bad.new.ports _ c.deref_mut-in-Ok-TooLong.ensures.len c.deref_mut-in-Ok-TooLong.ensures.value
    c.tell_bad.ensures.same_names call c.args.number c.tell_bad.new.self _ _
    (c.tell_bad.ensures.ends call _
    (bad_lent _ _ c.deref_mut-in-Ok-TooLong.result.now call c.args.number c.read_line.new.self _ c.deref_mut-in-Ok-TooLong.ensures.value
    (next_as call c.args.number c.read_line.new.self _ _ _ (c.in-Ok-TooLong.is ∙ ap Ok c.in-Ok-TooLong.field-0-is)
    (next_back _ c.args.ports.now.items c.deref_mut.result.now c.read_line.new.ports _ c.deref_mut.ensures.len c.deref_mut.ensures.value
    c.read_line.ensures.same_names call c.args.number c.read_line.new.self _ _
    (c.read_line.ensures.ends call _
    (at_lent _ c.args.ports.now.items c.deref_mut.result.now call c.args.number c.args.self.now _ c.deref_mut.ensures.value at)))))))

pub returns-in-Ok-Line-clause-ends : goal.returns-in-Ok-Line-clause-ends
returns-in-Ok-Line-clause-ends g c call at =
    c.answer.ensures.ends call ((next_as call c.args.number c.read_line.new.self _ _ _ (c.in-Ok-Line.is ∙ ap Ok c.in-Ok-Line.field-0-is)
    (next_back _ c.args.ports.now.items c.deref_mut.result.now c.read_line.new.ports _ c.deref_mut.ensures.len c.deref_mut.ensures.value
    c.read_line.ensures.same_names call c.args.number c.read_line.new.self _ _
    (c.read_line.ensures.ends call _
    (at_lent _ c.args.ports.now.items c.deref_mut.result.now call c.args.number c.args.self.now _ c.deref_mut.ensures.value at)))).few c.requires.number)
