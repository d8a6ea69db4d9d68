use Rattle.std.proofs.Common.{refl, sym, subst, ◌∙◌}
use Rattle.std.proofs.lemmas.Result.{err_from_is_err_and}
use Rattle.hume_model.specs.declared.core_tree.Core.{Core}
use Rattle.typed_core.specs.Trees.{AreTrees}
use Rattle.hume_front.specs.Accepted.{IsUnaccepted}
use Rattle.hume_front.proofs.Sources.{few_declarations, unaccepted, unchecked}
use Rattle.hume_front.proofs.acceptance.accept_typed.Goals as goal

pub returns-in_err-program-clause-error : goal.returns-in_err-program-clause-error
returns-in_err-program-clause-error c =
    let p = err_from_is_err_and c.from_residual.result c.from_residual.ensures.1 in
    rw p.1 (subst (IsUnaccepted c.args.text.now) (sym p.2) (unaccepted c.args.text.now _ c.in_err-program.ensures.error))

pub check_typed-requires-clause-few : goal.check_typed-requires-clause-few
check_typed-requires-clause-few c = few_declarations c.args.text.now c.in_ok-program.program c.in_ok-program.ensures.program

pub check_typed-requires-clause-short : goal.check_typed-requires-clause-short
check_typed-requires-clause-short c = c.in_ok-program.ensures.program.short

pub returns-in_err-typed-clause-error : goal.returns-in_err-typed-clause-error
returns-in_err-typed-clause-error c =
    let p = err_from_is_err_and c.from_residual-in_err-typed.result c.from_residual-in_err-typed.ensures.1 in
    rw p.1 (unaccepted c.args.text.now _ (unchecked c.args.text.now c.in_ok-program.program c.in_err-typed.field-0.0 c.in_err-typed.field-0.0 p.0 refl
    c.in_ok-program.ensures.program c.in_err-typed.ensures.error p.2))

pub sound_of-requires : goal.sound_of-requires
sound_of-requires c = (
  c.args.text.now,
  record { read = c.in_ok-program.ensures.program; fine = c.in_ok-typed.ensures.fine; stands = c.in_ok-typed.ensures.core },
)

pub returns-in_err-sound-clause-error : goal.returns-in_err-sound-clause-error
returns-in_err-sound-clause-error c =
    let p = err_from_is_err_and c.from_residual-in_err-sound.result c.from_residual-in_err-sound.ensures.1 in
    rw p.1 (subst (IsUnaccepted c.args.text.now) (sym p.2) (unaccepted c.args.text.now _ (c.in_err-sound.ensures.error c.args.text.now
    (record { read = c.in_ok-program.ensures.program; fine = c.in_ok-typed.ensures.fine; stands = c.in_ok-typed.ensures.core }))))

pub accepted_of-requires-clause-sound : goal.accepted_of-requires-clause-sound
accepted_of-requires-clause-sound c = (
  c.args.text.now,
  c.in_ok-sound.ensures.sound c.args.text.now
      (record { read = c.in_ok-program.ensures.program; fine = c.in_ok-typed.ensures.fine; stands = c.in_ok-typed.ensures.core }),
)

pub returns-in_err-accepted-clause-error : goal.returns-in_err-accepted-clause-error
returns-in_err-accepted-clause-error c =
    let p = err_from_is_err_and c.from_residual-in_err-accepted.result c.from_residual-in_err-accepted.ensures.1 in
    let is = c.in_ok-sound.ensures.sound c.args.text.now
    (record { read = c.in_ok-program.ensures.program; fine = c.in_ok-typed.ensures.fine; stands = c.in_ok-typed.ensures.core }) in
    rw p.1 (subst (IsUnaccepted c.args.text.now) (sym p.2) (c.in_err-accepted.ensures.error c.args.text.now is))

pub returns-clause-accepted : goal.returns-clause-accepted
returns-clause-accepted c =
    c.in_ok-accepted.ensures.accepted c.args.text.now
    (c.in_ok-sound.ensures.sound c.args.text.now
    (record { read = c.in_ok-program.ensures.program; fine = c.in_ok-typed.ensures.fine; stands = c.in_ok-typed.ensures.core }))

pub returns-clause-trees : goal.returns-clause-trees
returns-clause-trees c =
    subst (λ (core : Core). AreTrees core c.in_ok-typed.typed.trees) (sym (c.in_ok-accepted.ensures.core ∙ c.in_ok-sound.ensures.core))
    c.in_ok-typed.ensures.trees
