use Rattle.std.proofs.Common.{◌≡◌, [], Ok, sym, ap, ◌∙◌, subst, arith, false-eqb}
use Rattle.hume_base.specs.declared.limits.TheConstants.{MAX_DEPTH}
use Rattle.std.proofs.lemmas.List.{nil_from_length}
use Rattle.std.proofs.lemmas.Bool.{eqb-true}
use Rattle.std.proofs.lemmas.Result.{err_from_is_err_and}
use Rattle.hume_ast.specs.Places.{unplaced, placed}
use Rattle.hume_ast.specs.Places.{kinds}
use Rattle.parse_errors.specs.inner.Gives.{Fails}
use Rattle.parse_items.specs.inner.Items.{seen_item, wants}
use Rattle.parse_items.specs.inner.Progress.{took}
use Rattle.parse_readers.specs.inner.Items.{item as line}
use Rattle.hume_parse.proofs.Running.{Running, running_turn, running_fails, running_wants, running_ends, running_placed}
use Rattle.hume_parse.proofs.program.program.Goals as goal

pub returns-in_err-item-clause-reads : goal.returns-in_err-item-clause-reads
returns-in_err-item-clause-reads c =
    let p = err_from_is_err_and c.from_residual.result c.from_residual.ensures.1 in
    rw (p.1, p.2) (running_fails c.args.tokens.now c.items.progress c.items.rest.now c.items.invariant _ (omega (arith, false-eqb _ 0 c.items-test.ensures))
    (subst (λ at. Fails c.in_err-item.field-0.0 (line MAX_DEPTH at (kinds c.items.rest.now))) c.expecting-expecting.ensures c.in_err-item.ensures.reads))

pub items-preserved : goal.items-preserved
items-preserved c =
    let l = seen_item c.in_ok-item.item in
    let after = c.in_ok-item.after.now in
    let turned = running_turn c.args.tokens.now c.items.progress c.items.rest.now c.items.invariant l after
    (subst (λ at. line MAX_DEPTH at (kinds c.items.rest.now) ≡ Ok (l, kinds after)) c.expecting-expecting.ensures c.in_ok-item.ensures.reads)
    (omega (arith, false-eqb _ 0 c.items-test.ensures)) c.in_ok-item.ensures.cut in
    subst (λ progress. Running c.args.tokens.now progress after) (sym c.in_ok-progress.ensures)
    (subst (λ at. Running c.args.tokens.now (took at l c.items.progress) after) (sym c.first_place-at.ensures) turned)

pub returns-then-is_wanting-clause-reads : goal.returns-then-is_wanting-clause-reads
returns-then-is_wanting-clause-reads c =
    running_wants c.args.tokens.now c.items.progress c.items.rest.now c.items.invariant (nil_from_length _ (eqb-true _ 0 (sym c.items-test.ensures)))
    (sym (ap wants c.expecting.ensures) ∙ sym c.is_wanting.ensures ∙ c.if-is_wanting.true)

pub returns-clause-reads : goal.returns-clause-reads
returns-clause-reads c =
    running_ends c.args.tokens.now c.items.progress c.items.rest.now c.items.invariant (nil_from_length _ (eqb-true _ 0 (sym c.items-test.ensures)))
    (sym (ap wants c.expecting.ensures) ∙ sym c.is_wanting.ensures ∙ c.if-is_wanting.false)
    ∙ ap (λ decls. Ok (unplaced decls, [])) (sym c.in_ok-close.ensures)

pub returns-clause-places : goal.returns-clause-places
returns-clause-places c =
    subst (λ decls. decls ≡ placed c.args.tokens.now (unplaced decls)) (sym c.in_ok-close.ensures)
    (running_placed c.args.tokens.now c.items.progress c.items.rest.now c.items.invariant)
