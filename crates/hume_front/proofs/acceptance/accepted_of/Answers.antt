use Rattle.std.proofs.Common.{refl}
use Rattle.std.proofs.lemmas.Result.{err_from_is_err_and}
use Rattle.hume_front.proofs.Sources.{sound_check, sound_wires, sound_handlers, sound_formed, too_dear, accepted}
use Rattle.hume_front.proofs.acceptance.accepted_of.Goals as goal

pub costs-requires-clause-frame : goal.costs-requires-clause-frame
costs-requires-clause-frame c = (sound_formed c.requires.sound.0 c.args.sound c.requires.sound.1).frame

pub returns-in_err-costs-clause-error : goal.returns-in_err-costs-clause-error
returns-in_err-costs-clause-error c = λ text is.
    let p = err_from_is_err_and c.from_residual.result c.from_residual.ensures.1 in
    let sound = c.args.sound in
    rw p.1 (too_dear text sound.program sound.core is.program (sound_check text sound is) is.core (sound_wires text sound is)
    (sound_handlers text sound is) c.in_err-costs.field-0.0 c.in_err-costs.field-0.0 p.0 refl c.in_err-costs.ensures.refused p.2)

pub returns-clause-accepted : goal.returns-clause-accepted
returns-clause-accepted c = λ text is.
    let sound = c.args.sound in
    accepted text sound.program sound.core is.program (sound_check text sound is) is.core (sound_wires text sound is)
    (sound_handlers text sound is) c.in_ok-costs.ensures.fine sound.wiring is.wiring c.in_ok-costs.costs c.in_ok-costs.ensures.costs
