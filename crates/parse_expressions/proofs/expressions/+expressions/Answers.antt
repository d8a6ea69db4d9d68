use Rattle.std.proofs.Common.{◌-◌, [], ◌∷◌, ◌++◌, refl, sym, ap, ◌∙◌, arith}
use Rattle.std.proofs.lemmas.Result.{err_from_is_err_and}
use Rattle.hume_base.specs.declared.keyword.Keyword.TheVariants.{End}
use Rattle.hume_base.specs.declared.symbol.Symbol.TheVariants.{Comma, Bar}
use Rattle.hume_base.specs.declared.token.Kind.TheVariants.{Word, Sign}
use Rattle.hume_ast.specs.declared.tree.Exp.{out-Exp}
use Rattle.hume_ast.specs.Places.{kinds}
use Rattle.parse_readers.specs.inner.Expressions.{exps, at_level, starts_atom}
use Rattle.parse_readers.proofs.ExpressionsRead.{expressions_read, atom_shrink, alternatives_of}
use Rattle.parse_expressions.proofs.Loops.{parts_stop, parts_turn, parts_fail, beside_stop, beside_turn, beside_fail}
use Rattle.parse_expressions.proofs.ExpLoops.{closing, closing_ends, closing_stops, others_begin, exp_left, alternative_left, atom_left}
use Rattle.parse_expressions.proofs.Climbing.{loop_begins, loop_none, loop_ends, loop_turns, loop_stops, loop_limit, operand_high, right_left}
use Rattle.parse_expressions.proofs.ExpSteps.{if_stops, parens_stops, parens_ends, update_stops}
use Rattle.parse_expressions.proofs.expressions.+expressions.Goals as goal

pub if_exp-returns-in_err-second : goal.if_exp-returns-in_err-second
if_exp-returns-in_err-second t c =
    let p = err_from_is_err_and c.from_residual-in_err-second.result c.from_residual-in_err-second.ensures.1 in
    rw (p.1, p.2) (if_stops _ c.args.room _ _ _ _ _ c.in_ok-test.ensures c.in_ok-first.ensures c.in_err-second.ensures)

pub alternatives-returns-in_err-pattern-2 : goal.alternatives-returns-in_err-pattern-2
alternatives-returns-in_err-pattern-2 t c =
    let p = err_from_is_err_and c.from_residual-in_err-pattern-2.result c.from_residual-in_err-pattern-2.ensures.1 in
    rw (p.1, p.2) (parts_fail (alternatives_of 64 c.args.room) Bar _ (closing (Word End)) (λ n. refl) _ _ _ c.items.invariant _ (sym c.items-test.ensures.is) c.behind.ensures.kinds c.in_err-pattern-2.ensures)

pub alternatives-items-smaller : goal.alternatives-items-smaller
alternatives-items-smaller t c =
    omega (arith, alternative_left c.args.room c.behind.result.now c.in_ok-pattern-2.after.now (c.in_ok-pattern-2.pattern, c.in_ok-pattern-2.body.exp) c.in_ok-pattern-2.ensures, c.behind.ensures.shorter (c.items-test.ensures.some refl))

pub alternatives-items-preserved : goal.alternatives-items-preserved
alternatives-items-preserved t c =
    parts_turn (alternatives_of 64 c.args.room) Bar _ (closing (Word End)) (λ n. refl) _ _ _ c.items.invariant _ _ _ (sym c.items-test.ensures.is) c.behind.ensures.kinds c.in_ok-pattern-2.ensures c.in_ok-found-2.ensures

pub alternatives-returns-in_err-rest : goal.alternatives-returns-in_err-rest
alternatives-returns-in_err-rest t c =
    let p = err_from_is_err_and c.from_residual-in_err-rest.result c.from_residual-in_err-rest.ensures.1 in
    rw (p.1, p.2) (closing_stops _ (Word End) c.items.found.items (kinds c.items.rest.now) _
    (parts_stop (alternatives_of 64 c.args.room) Bar _ (closing (Word End)) (λ n. refl) _ _ [] c.items.invariant (sym c.items-test.ensures.is)) c.in_err-rest.ensures.reads)

pub alternatives-returns : goal.alternatives-returns
alternatives-returns t c =
    closing_ends _ (Word End) c.items.found.items (kinds c.items.rest.now) (kinds c.in_ok-rest.rest.now)
    (parts_stop (alternatives_of 64 c.args.room) Bar _ (closing (Word End)) (λ n. refl) _ _ [] c.items.invariant (sym c.items-test.ensures.is)) c.in_ok-rest.ensures.reads

pub operation-returns-in_err-first : goal.operation-returns-in_err-first
operation-returns-in_err-first t c =
    let p = err_from_is_err_and c.from_residual.result c.from_residual.ensures.1 in
    rw (p.1, p.2) (loop_none c.args.room c.args.level (kinds c.args.tokens.now) _ c.requires.some c.requires.low c.requires.high c.in_err-first.ensures)

pub operation-operators-init : goal.operation-operators-init
operation-operators-init t c = record {
  reads = rw c.first_limit-limit.ensures (loop_begins c.args.room c.args.level (kinds c.args.tokens.now) (kinds c.in_ok-first.after.now) c.in_ok-first.first.exp c.requires.some c.requires.low c.requires.high c.in_ok-first.ensures);
  within = rw c.first_limit-limit.ensures (operand_high c.args.level c.requires.high);
}

pub operation-returns-in_err-whole : goal.operation-returns-in_err-whole
operation-returns-in_err-whole t c =
    let p = err_from_is_err_and c.from_residual-in_err-whole.result c.from_residual-in_err-whole.ensures.1 in
    rw (p.1, p.2) (loop_stops (at_level c.args.level (exps c.args.room) (kinds c.args.tokens.now)) c.args.level c.operators.limit (c.args.room - 1) c.operators.left.exp (kinds c.operators.rest.now)
    c.operators.invariant.reads c.operators.invariant.within c.in-Some.operator (sym c.in-Some.ensures.is) _ c.in_err-whole.ensures)

pub operation-operators-smaller : goal.operation-operators-smaller
operation-operators-smaller t c = right_left c.in-Some.operator (c.args.room - 1) (out-Exp c.operators.left.exp) c.operators.rest.now c.in_ok-whole.after.now c.in_ok-whole.whole.exp c.in_ok-whole.ensures

pub operation-operators-preserved : goal.operation-operators-preserved
operation-operators-preserved t c = record {
  reads = rw c.limit_behind-limit.ensures (loop_turns (at_level c.args.level (exps c.args.room) (kinds c.args.tokens.now)) c.args.level c.operators.limit (c.args.room - 1) c.operators.left.exp (kinds c.operators.rest.now)
      c.operators.invariant.reads c.operators.invariant.within c.in-Some.operator (sym c.in-Some.ensures.is) c.in_ok-whole.whole.exp (kinds c.in_ok-whole.after.now) c.in_ok-whole.ensures);
  within = rw c.limit_behind-limit.ensures (loop_limit (at_level c.args.level (exps c.args.room) (kinds c.args.tokens.now)) c.args.level c.operators.limit (c.args.room - 1) c.operators.left.exp (kinds c.operators.rest.now)
      c.operators.invariant.reads c.operators.invariant.within c.in-Some.operator (sym c.in-Some.ensures.is));
}

pub operation-returns : goal.operation-returns
operation-returns t c =
    loop_ends (at_level c.args.level (exps c.args.room) (kinds c.args.tokens.now)) c.args.level c.operators.limit (c.args.room - 1) c.operators.left.exp (kinds c.operators.rest.now)
    c.operators.invariant.reads c.operators.invariant.within (sym c.in_default.ensures.is)

pub arguments-returns-in_err-item : goal.arguments-returns-in_err-item
arguments-returns-in_err-item t c =
    let p = err_from_is_err_and c.from_residual.result c.from_residual.ensures.1 in
    rw (p.1, p.2) (beside_fail starts_atom (exps c.args.room).atom (atom_shrink 64 c.args.room) _ (λ r. r) (λ n. refl) _ _ c.items.invariant _ (sym c.items-test.ensures.is) c.in_err-item.ensures)

pub arguments-items-smaller : goal.arguments-items-smaller
arguments-items-smaller t c = atom_left c.args.room c.items.rest.now c.in_ok-item.after.now c.in_ok-item.item.exp c.in_ok-item.ensures

pub arguments-items-preserved : goal.arguments-items-preserved
arguments-items-preserved t c = beside_turn starts_atom (exps c.args.room).atom (atom_shrink 64 c.args.room) _ (λ r. r) (λ n. refl) _ _ c.items.invariant _ _ _ (sym c.items-test.ensures.is) c.in_ok-item.ensures c.in_ok-items.ensures

pub arguments-returns : goal.arguments-returns
arguments-returns t c = beside_stop starts_atom (exps c.args.room).atom (atom_shrink 64 c.args.room) _ (λ r. r) (λ n. refl) _ _ c.items.invariant (sym c.items-test.ensures.is)

pub update-returns-in_err-item : goal.update-returns-in_err-item
update-returns-in_err-item t c =
    let p = err_from_is_err_and c.from_residual-in_err-item.result c.from_residual-in_err-item.ensures.1 in
    rw (p.1, p.2) (update_stops _ (exps c.args.room).atom _ _ _ _ _ c.in_ok-vector.ensures c.in_ok-at.ensures c.in_err-item.ensures)

pub parens-returns-in_err-parts : goal.parens-returns-in_err-parts
parens-returns-in_err-parts t c =
    let p = err_from_is_err_and c.from_residual-in_err-parts.result c.from_residual-in_err-parts.ensures.1 in
    rw (p.1, p.2) (parens_stops _ c.args.room _ _ _ c.in_ok-first.ensures (sym c.if-next_is_word.ensures.is) c.in_err-parts.ensures)

pub parens-returns : goal.parens-returns
parens-returns t c = parens_ends c.args.room _ _ _ _ _ _ c.in_ok-first.ensures (sym c.if-next_is_word.ensures.is) c.in_ok-parts.ensures c.in_ok-parens_tree.ensures

pub others-items-init : goal.others-items-init
others-items-init t c = others_begin _ _ _ _ _ (c.in_ok-items.ensures ∙ ap (λ l. l ++ c.args.first.exp ∷ []) c.new.ensures)

pub others-returns-in_err-item : goal.others-returns-in_err-item
others-returns-in_err-item t c =
    let p = err_from_is_err_and c.from_residual-in_err-item.result c.from_residual-in_err-item.ensures.1 in
    rw (p.1, p.2) (parts_fail (expressions_read 64 c.args.room).whole Comma _ (closing (Sign c.args.close)) (λ n. refl) _ _ _ c.items.invariant _ (sym c.items-test.ensures.is) c.behind.ensures.kinds c.in_err-item.ensures)

pub others-items-smaller : goal.others-items-smaller
others-items-smaller t c =
    omega (arith, exp_left c.args.room c.behind.result.now c.in_ok-item.after.now c.in_ok-item.item.exp c.in_ok-item.ensures, c.behind.ensures.shorter (c.items-test.ensures.some refl))

pub others-items-preserved : goal.others-items-preserved
others-items-preserved t c =
    parts_turn (expressions_read 64 c.args.room).whole Comma _ (closing (Sign c.args.close)) (λ n. refl) _ _ _ c.items.invariant _ _ _ (sym c.items-test.ensures.is) c.behind.ensures.kinds c.in_ok-item.ensures c.in_ok-items-2.ensures

pub others-returns-in_err-rest : goal.others-returns-in_err-rest
others-returns-in_err-rest t c =
    let p = err_from_is_err_and c.from_residual-in_err-rest.result c.from_residual-in_err-rest.ensures.1 in
    rw (p.1, p.2) (closing_stops _ (Sign c.args.close) c.items.items.items (kinds c.items.rest.now) _
    (parts_stop (expressions_read 64 c.args.room).whole Comma _ (closing (Sign c.args.close)) (λ n. refl) _ _ [] c.items.invariant (sym c.items-test.ensures.is)) c.in_err-rest.ensures.reads)

pub others-returns : goal.others-returns
others-returns t c =
    closing_ends _ (Sign c.args.close) c.items.items.items (kinds c.items.rest.now) (kinds c.in_ok-rest.rest.now)
    (parts_stop (expressions_read 64 c.args.room).whole Comma _ (closing (Sign c.args.close)) (λ n. refl) _ _ [] c.items.invariant (sym c.items-test.ensures.is)) c.in_ok-rest.ensures.reads
