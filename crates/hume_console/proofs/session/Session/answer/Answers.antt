use Rattle.hume_console.proofs.SessionAnswers.{asked_moment, front_as, its, line_done, line_failed}
use Rattle.hume_console.proofs.session.Session.answer.Goals as goal

pub obey-requires-clause-at : goal.obey-requires-clause-at
obey-requires-clause-at g c κs within =
    let at = c.requires.at in
    let asked = front_as c.unread.result.now _ c.args.length _ c.unread.ensures c.read_command-command.ensures in (
      its at.0 c.args.number c.args.length c.args.self.now _ at.1 c.requires.number _ asked,
      asked_moment at.0 c.args.number c.args.length c.args.self.now _ at.1 c.requires.number _ asked,
    )

pub returns-in-Err-clause-ends : goal.returns-in-Err-clause-ends
returns-in-Err-clause-ends g c call at =
    let asked = front_as c.unread.result.now _ c.args.length _ c.unread.ensures c.read_command-command.ensures in
    line_failed call c.args.number c.args.length c.args.self.now _ at c.requires.number _ asked c.obey.new.engine c.obey.new.places _ _ _ c.in-Err.is
    (c.obey.ensures.ends (its call c.args.number c.args.length c.args.self.now _ at c.requires.number _ asked)
    (asked_moment call c.args.number c.args.length c.args.self.now _ at c.requires.number _ asked))

pub returns-clause-ends : goal.returns-clause-ends
returns-clause-ends g c call at =
    let asked = front_as c.unread.result.now _ c.args.length _ c.unread.ensures c.read_command-command.ensures in
    line_done call c.args.number c.args.length c.args.self.now _ at c.requires.number _ asked _ _ c.take_line.ensures.unread c.take_line.ensures.ended _ _ c.in-Ok.is
    (c.obey.ensures.ends (its call c.args.number c.args.length c.args.self.now _ at c.requires.number _ asked)
    (asked_moment call c.args.number c.args.length c.args.self.now _ at c.requires.number _ asked))
