use Rattle.std.proofs.Common.{refl, sym, subst}
use Rattle.std.proofs.lemmas.Result.{err_from_is_err_and}
use Rattle.hume_front.specs.Accepted.{IsUnsound}
use Rattle.hume_front.proofs.Sources.{sound_core, unwired, unhandled, made_sound}
use Rattle.hume_front.proofs.acceptance.sound_of.Goals as goal

pub check_wires-requires : goal.check_wires-requires
check_wires-requires c =
    let h = c.requires.1 in
    (sound_core c.requires.0 c.args.program c.args.core h.read h.fine h.stands).frame

pub returns-in_err-wiring-clause-error : goal.returns-in_err-wiring-clause-error
returns-in_err-wiring-clause-error c = λ text h.
    let p = err_from_is_err_and c.from_residual.result c.from_residual.ensures.1 in
    rw p.1 (unwired text c.args.program c.args.core h.read h.fine h.stands c.in_err-wiring.field-0.0 c.in_err-wiring.field-0.0 p.0 refl
    c.in_err-wiring.ensures.refused p.2)

pub returns-in_err-raised-clause-error : goal.returns-in_err-raised-clause-error
returns-in_err-raised-clause-error c = λ text h.
    let p = err_from_is_err_and c.from_residual-in_err-raised.result c.from_residual-in_err-raised.ensures.1 in
    rw p.1 (subst (IsUnsound text) (sym p.2) tt)

pub check_handlers-requires-clause-frame : goal.check_handlers-requires-clause-frame
check_handlers-requires-clause-frame c =
    let h = c.requires.1 in
    (sound_core c.requires.0 c.args.program c.args.core h.read h.fine h.stands).frame

pub returns-in_err-check_handlers-clause-error : goal.returns-in_err-check_handlers-clause-error
returns-in_err-check_handlers-clause-error c = λ text h.
    let p = err_from_is_err_and c.from_residual-in_err-check_handlers.result c.from_residual-in_err-check_handlers.ensures.1 in
    rw p.1 (unhandled text c.args.program c.args.core h.read h.fine h.stands c.in_err-check_handlers.field-0.0 p.0 c.in_ok-wiring.ensures.fine
    c.in_err-check_handlers.ensures.refused p.2)

pub returns-clause-sound : goal.returns-clause-sound
returns-clause-sound c = λ text h.
    made_sound text c.args.program c.args.core h.read h.fine h.stands c.in_ok-wiring.ensures.fine c.in_ok-check_handlers.ensures.fine _ refl refl
    c.in_ok-wiring.ensures.wiring
