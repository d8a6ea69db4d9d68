use Rattle.std.proofs.Common.{ap, arith, ◌∙◌, Ok, ◌+◌}
use Rattle.hume_console.proofs.SessionTold.{next_as}
use Rattle.hume_console.specs.declared.session.TheConstants.{MAX_COMMANDS}
use Rattle.hume_console.proofs.session.Session.refuse_line.Goals as goal

pub tell_bad-requires-clause-at : goal.tell_bad-requires-clause-at
tell_bad-requires-clause-at g c =
    let at = c.requires.at in
    (at.0, at.1, (next_as at.0 (MAX_COMMANDS + 1) c.read_line.new.self _ _ _ (c.in-Ok-Line.is ∙ ap Ok c.in-Ok-Line.field-0-is) (c.read_line.ensures.ends at.0 at.1 at.2)).many (omega arith))

pub tell_bad-requires-in-Ok-TooLong-clause-at : goal.tell_bad-requires-in-Ok-TooLong-clause-at
tell_bad-requires-in-Ok-TooLong-clause-at g c =
    let at = c.requires.at in
    (at.0, at.1, next_as at.0 (MAX_COMMANDS + 1) c.read_line.new.self _ _ _ (c.in-Ok-TooLong.is ∙ ap Ok c.in-Ok-TooLong.field-0-is) (c.read_line.ensures.ends at.0 at.1 at.2))

pub returns-in-Ok-End-clause-ends : goal.returns-in-Ok-End-clause-ends
returns-in-Ok-End-clause-ends g c call gone at =
    next_as call (MAX_COMMANDS + 1) c.read_line.new.self _ _ _ (c.in-Ok-End.is ∙ ap Ok c.in-Ok-End.field-0-is) (c.read_line.ensures.ends call gone at)

pub returns-in-Ok-Line-clause-ends : goal.returns-in-Ok-Line-clause-ends
returns-in-Ok-Line-clause-ends g c call gone at =
    c.tell_bad.ensures.ends call gone
    ((next_as call (MAX_COMMANDS + 1) c.read_line.new.self _ _ _ (c.in-Ok-Line.is ∙ ap Ok c.in-Ok-Line.field-0-is) (c.read_line.ensures.ends call gone at)).many (omega arith))

pub returns-in-Ok-TooLong-clause-ends : goal.returns-in-Ok-TooLong-clause-ends
returns-in-Ok-TooLong-clause-ends g c call gone at =
    c.tell_bad-in-Ok-TooLong.ensures.ends call gone
    (next_as call (MAX_COMMANDS + 1) c.read_line.new.self _ _ _ (c.in-Ok-TooLong.is ∙ ap Ok c.in-Ok-TooLong.field-0-is) (c.read_line.ensures.ends call gone at))
