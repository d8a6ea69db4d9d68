use Rattle.std.proofs.Common.{◌≡◌, ◌-◌, ◌⊎◌, [], length, Err, inr, refl, sym, ap, ◌∙◌, subst, arith, false-eqb}
use Rattle.std.proofs.lemmas.List.{nil_from_length}
use Rattle.std.proofs.lemmas.Bool.{eqb-true}
use Rattle.std.proofs.lemmas.Result.{err_from_is_err_and}
use Rattle.hume_lex.specs.BadPlaces.{IsBadPlace, IsRead}
use Rattle.hume_lex.specs.Reading.{ReadsTo}
use Rattle.hume_lex.specs.declared.lexer.LexError.TheVariants as error
use Rattle.hume_lex.proofs.Readings.{nothing_there, takes_on, refused_there}
use Rattle.hume_lex.proofs.Unique.{one_reading, no_error, same_error, as_result, read_no_bad_place}
use Rattle.hume_lex.proofs.lexer.lex.Goals as goal
use Rattle.hume_lex.proofs.lexer.lex.Goals.{In_default, In_err-take, After-pieces}

bad_char : (c : In_default) → IsBadPlace c.args.source.now (error.BadChar (length c.args.source.now - length c.pieces.rest.now))
bad_char c =
    nothing_there c.args.source.now c.pieces.rest.now _ c.pieces.invariant (omega (arith, false-eqb _ 0 c.pieces-test.ensures)) (rw c.in_default.is at c.in_ok-front.ensures.next)

pub returns-in_default-clause-error : goal.returns-in_default-clause-error
returns-in_default-clause-error c = inr (bad_char (goal.at.returns-in_default-clause-error c).In_default)

pub returns-in_default-clause-only_tokens : goal.returns-in_default-clause-only_tokens
returns-in_default-clause-only_tokens c = no_error _ _ (inr (bad_char (goal.at.returns-in_default-clause-only_tokens c).In_default))

pub returns-in_default-clause-only_error : goal.returns-in_default-clause-only_error
returns-in_default-clause-only_error c = λ bad h. as_result _ _ bad refl (same_error _ _ bad (inr (bad_char (goal.at.returns-in_default-clause-only_error c).In_default)) h)

refused : (c : In_err-take) → (c.in_err-take.field-0.0 ≡ error.NoMemory) ⊎ IsBadPlace c.args.source.now c.in_err-take.field-0.0
refused c =
    refused_there c.args.source.now c.pieces.rest.now _ c.pieces.invariant c.in-Some.after c.in-Some.front _ _ refl (rw c.in-Some.is at c.in_ok-front.ensures.next) c.in_err-take.ensures.err

pub returns-in_err-take-clause-error : goal.returns-in_err-take-clause-error
returns-in_err-take-clause-error c =
    let p = err_from_is_err_and c.from_residual-in_err-take.result c.from_residual-in_err-take.ensures.1 in
    rw (p.1, p.2) (refused (goal.at.returns-in_err-take-clause-error c).In_err-take)

pub returns-in_err-take-clause-only_tokens : goal.returns-in_err-take-clause-only_tokens
returns-in_err-take-clause-only_tokens c =
    let p = err_from_is_err_and c.from_residual-in_err-take.result c.from_residual-in_err-take.ensures.1 in
    rw (p.1, p.2) (no_error _ _ (refused (goal.at.returns-in_err-take-clause-only_tokens c).In_err-take))

pub returns-in_err-take-clause-only_error : goal.returns-in_err-take-clause-only_error
returns-in_err-take-clause-only_error c = λ bad h.
    let p = err_from_is_err_and c.from_residual-in_err-take.result c.from_residual-in_err-take.ensures.1 in
    as_result _ _ bad (p.1 ∙ ap Err p.2) (same_error _ _ bad (refused (goal.at.returns-in_err-take-clause-only_error c).In_err-take) h)

pub pieces-preserved : goal.pieces-preserved
pieces-preserved c =
    takes_on c.args.source.now c.pieces.rest.now _ c.pieces.invariant c.in-Some.after c.in-Some.front _ _ refl (rw c.in-Some.is at c.in_ok-front.ensures.next) c.in_ok-take.ensures.ok

read : (c : After-pieces) → IsRead c.args.source.now c.pieces.tokens.items
read c =
    let over : c.pieces.rest.now ≡ [] = nil_from_length _ (eqb-true _ 0 (sym c.pieces-test.ensures)) in
    (subst (λ l. ReadsTo c.args.source.now l c.pieces.tokens.items) over c.pieces.invariant.reads, c.pieces.invariant.limits)

pub returns-clause-only_tokens : goal.returns-clause-only_tokens
returns-clause-only_tokens c = λ tokens h. one_reading _ _ tokens (read c).0 h.0

pub returns-clause-only_error : goal.returns-clause-only_error
returns-clause-only_error c = λ bad h. absurd (read_no_bad_place _ _ bad (read c) h)
