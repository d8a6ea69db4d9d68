use Rattle.hume_console.proofs.Closes.{session_closable, session_closed}
use Rattle.hume_console.proofs.closing.finish.Goals as goal

pub close-requires : goal.close-requires
close-requires g c =
    let at = c.requires.at in
    record { closable = session_closable at.0 at.1 c.args.session.now _ at.3 c.core.result.now c.core.ensures }

pub returns-clause-ends : goal.returns-clause-ends
returns-clause-ends g c call ending gone at = session_closed call ending c.args.session.now _ at c.core.result.now c.core.ensures _ _ c.close.ensures.ends
