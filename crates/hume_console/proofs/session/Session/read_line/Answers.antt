use Rattle.std.proofs.Common.{refl}
use Rattle.hume_console.proofs.SessionLines.{in_within, read_ends}
use Rattle.hume_console.proofs.session.Session.read_line.Goals as goal

pub next-requires : goal.next-requires
next-requires g c = in_within c.requires.at.0 c.args.number c.args.self.now _ c.requires.at.2 _ c.args.ports.now refl

pub returns-clause-ends : goal.returns-clause-ends
returns-clause-ends g c call gone at =
    read_ends call c.args.number c.args.self.now _ _ _ at refl refl _ c.next.ensures.reads c.next.ensures.next c.next.ensures.failed
