use Rattle.std.proofs.Common.{sym, subst}
use Rattle.std.proofs.lemmas.Result.{err_from_is_err_and}
use Rattle.hume_front.specs.Accepted.{IsUnaccepted}
use Rattle.hume_front.proofs.Sources.{unaccepted}
use Rattle.hume_front.proofs.acceptance.accept.Goals as goal

pub returns-in_err-sound-clause-error : goal.returns-in_err-sound-clause-error
returns-in_err-sound-clause-error c =
    let p = err_from_is_err_and c.from_residual.result c.from_residual.ensures.1 in
    rw p.1 (subst (IsUnaccepted c.args.text.now) (sym p.2) (unaccepted c.args.text.now _ c.in_err-sound.ensures.error))

pub accepted_of-requires-clause-sound : goal.accepted_of-requires-clause-sound
accepted_of-requires-clause-sound c = (c.args.text.now, c.in_ok-sound.ensures.sound)

pub returns-clause-accepted : goal.returns-clause-accepted
returns-clause-accepted c = c.accepted_of.ensures.accepted c.args.text.now c.in_ok-sound.ensures.sound

pub returns-clause-error : goal.returns-clause-error
returns-clause-error c = c.accepted_of.ensures.error c.args.text.now c.in_ok-sound.ensures.sound
