use Rattle.hume_c.proofs.Answering.{accepted, refused, refused_another}
use Rattle.hume_c.proofs.call.tell.Goals as goal

pub returns-in-Ok-clause-ends : goal.returns-in-Ok-clause-ends
returns-in-Ok-clause-ends g c source = accepted
    (record { kind = c.args.kind; name = c.args.name.now; source = source }) _ _ _ _ c.in-Ok.source.accepted c.in-Ok.source.trees
    c.in-Ok.ensures.accepted c.in-Ok.ensures.trees c.tell_text.ensures.ends

pub returns-in-Err-clause-ends : goal.returns-in-Err-clause-ends
returns-in-Err-clause-ends g c source = refused
    (record { kind = c.args.kind; name = c.args.name.now; source = source }) _ _ _ _ (c.end_unaccepted.ensures _ c.in-Err.ensures.error)

pub returns-in-Err-clause-used : goal.returns-in-Err-clause-used
returns-in-Err-clause-used g c = refused_another _ _ _ _ (c.end_unaccepted.ensures _ c.in-Err.ensures.error)
