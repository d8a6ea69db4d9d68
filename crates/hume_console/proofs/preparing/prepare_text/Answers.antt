use Rattle.std.proofs.Common.{ap, ◌∙◌, subst, Err}
use Rattle.hume_front.specs.Accepted.{IsUnaccepted}
use Rattle.hume_front.specs.declared.error.FrontError.{FrontError}
use Rattle.hume_console.proofs.Prepared.{told_broken, told_unfit}
use Rattle.hume_console.proofs.preparing.prepare_text.Goals as goal

pub returns-in-Err-Refused-clause-ended : goal.returns-in-Err-Refused-clause-ended
returns-in-Err-Refused-clause-ended g c first gone read =
    told_broken c.args.name.now c.args.text.now first _ read gone c.in-Err-Refused.refusal _ _
    (subst (λ (error : FrontError). IsUnaccepted c.args.text.now error) c.in-Err-Refused.field-0-is c.in-Err-Refused.ensures.error) c.refuse.ensures.ends

pub returns-in-Err-Unfit-clause-ended : goal.returns-in-Err-Unfit-clause-ended
returns-in-Err-Unfit-clause-ended g c first gone read =
    told_unfit c.args.name.now c.args.text.now first _ read gone c.in-Ok.accepted c.in-Err-Unfit.line c.unfit_at.result _ _ c.in-Ok.ensures.accepted
    (c.find_streams.ensures.unfit c.in-Err-Unfit.line (c.in-Err-Unfit.is ∙ ap Err c.in-Err-Unfit.field-0-is)) c.unfit_at.ensures c.refuse-in-Err-Unfit.ensures.ends
