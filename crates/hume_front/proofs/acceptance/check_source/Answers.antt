use Rattle.std.proofs.Common.{refl}
use Rattle.std.proofs.lemmas.Result.{err_from_is_err_and}
use Rattle.hume_front.proofs.Sources.{few_declarations, unchecked}
use Rattle.hume_front.proofs.acceptance.check_source.Goals as goal

pub check-requires-clause-few : goal.check-requires-clause-few
check-requires-clause-few c = few_declarations c.args.text.now c.in_ok-program.program c.in_ok-program.ensures.program

pub check-requires-clause-short : goal.check-requires-clause-short
check-requires-clause-short c = c.in_ok-program.ensures.program.short

pub returns-in_err-core-clause-error : goal.returns-in_err-core-clause-error
returns-in_err-core-clause-error c =
    let p = err_from_is_err_and c.from_residual-in_err-core.result c.from_residual-in_err-core.ensures.1 in
    rw p.1 (unchecked c.args.text.now c.in_ok-program.program c.in_err-core.field-0.0 c.in_err-core.field-0.0 p.0 refl
    c.in_ok-program.ensures.program c.in_err-core.ensures.error p.2)

pub sound_of-requires : goal.sound_of-requires
sound_of-requires c = (
  c.args.text.now,
  record { read = c.in_ok-program.ensures.program; fine = c.in_ok-core.ensures.fine; stands = c.in_ok-core.ensures.core },
)

pub returns-clause-sound : goal.returns-clause-sound
returns-clause-sound c =
    c.sound_of.ensures.sound c.args.text.now
    (record { read = c.in_ok-program.ensures.program; fine = c.in_ok-core.ensures.fine; stands = c.in_ok-core.ensures.core })

pub returns-clause-error : goal.returns-clause-error
returns-clause-error c =
    c.sound_of.ensures.error c.args.text.now
    (record { read = c.in_ok-program.ensures.program; fine = c.in_ok-core.ensures.fine; stands = c.in_ok-core.ensures.core })
