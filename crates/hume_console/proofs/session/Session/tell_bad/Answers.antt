use Rattle.std.proofs.Common.{ap, refl, subst, []}
use Rattle.hume_console.proofs.SessionTold.{bad_after, bad_out, bad_told}
use Rattle.hume_console.specs.inner.Answering.{EndsLines}
use Rattle.hume_console.proofs.session.Session.tell_bad.Goals as goal

pub tell_bad_command-requires-clause-out : goal.tell_bad_command-requires-clause-out
tell_bad_command-requires-clause-out g c =
    let at = c.requires.at in bad_out at.0 c.args.number c.args.self.now c.args.self.now _ [] at.2

pub returns-in-Ok-clause-ends : goal.returns-in-Ok-clause-ends
returns-in-Ok-clause-ends g c call gone at =
    subst (EndsLines call _ _) (ap bad_after c.in-Ok.is) (bad_told call c.args.number c.args.self.now _ _ _ at refl refl _ c.tell_bad_command.ensures.ends)

pub returns-in-Err-clause-ends : goal.returns-in-Err-clause-ends
returns-in-Err-clause-ends g c call gone at =
    subst (EndsLines call c.args.self.now _) (ap bad_after c.in-Err.is) (bad_told call c.args.number c.args.self.now c.args.self.now _ _ at refl refl _ c.tell_bad_command.ensures.ends)
