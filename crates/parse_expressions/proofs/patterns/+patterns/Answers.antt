use Rattle.std.proofs.Common.{◌-◌, [], sym, refl, arith}
use Rattle.std.proofs.lemmas.Result.{err_from_is_err_and}
use Rattle.hume_base.specs.declared.symbol.Symbol.TheVariants.{Comma}
use Rattle.parse_readers.specs.inner.Patterns.{patterns, starts_pat}
use Rattle.parse_expressions.proofs.Loops.{parts_stop, parts_turn, parts_fail, beside_stop, beside_turn, beside_fail}
use Rattle.parse_readers.proofs.PatternsRead.{patterns_read, atoms_shrink}
use Rattle.parse_expressions.proofs.PatternSteps.{con_from, con_stop, parens_from, parens_stop, parens_fail}
use Rattle.parse_expressions.proofs.patterns.+patterns.Goals as goal

pub con-returns-in_err-part-clause-reads : goal.con-returns-in_err-part-clause-reads
con-returns-in_err-part-clause-reads t c =
    let p = err_from_is_err_and c.from_residual-in_err-part.result c.from_residual-in_err-part.ensures.1 in
    rw (p.1, p.2) (beside_fail starts_pat (patterns (c.args.room - 1)).atom (atoms_shrink (c.args.room - 1)) _ (con_from _) (λ n. refl) _ _ c.parts.invariant.reads _ (sym c.parts-test.ensures.is) c.in_err-part.ensures.reads)

pub con-parts-preserved : goal.con-parts-preserved
con-parts-preserved t c = record {
  reads = beside_turn starts_pat (patterns (c.args.room - 1)).atom (atoms_shrink (c.args.room - 1)) _ (con_from _) (λ n. refl) _ _ c.parts.invariant.reads _ _ _ (sym c.parts-test.ensures.is) c.in_ok-part.ensures.reads c.in_ok-push.ensures.ok;
  shorter = omega (arith, c.parts.invariant.shorter, c.in_ok-part.ensures.shorter);
}

pub parens-returns-in_err-other-clause-reads : goal.parens-returns-in_err-other-clause-reads
parens-returns-in_err-other-clause-reads t c =
    let p = err_from_is_err_and c.from_residual-in_err-other.result c.from_residual-in_err-other.ensures.1 in
    rw (p.1, p.2) (parts_fail (patterns_read (c.args.room - 1)).whole Comma _ (parens_from _) (λ n. refl) _ _ _ c.others.invariant.reads _ (sym c.others-test.ensures.is) c.behind.ensures.kinds c.in_err-other.ensures.reads)

pub parens-others-preserved : goal.parens-others-preserved
parens-others-preserved t c = record {
  reads = parts_turn (patterns_read (c.args.room - 1)).whole Comma _ (parens_from _) (λ n. refl) _ _ _ c.others.invariant.reads _ _ _ (sym c.others-test.ensures.is) c.behind.ensures.kinds c.in_ok-other.ensures.reads c.in_ok-push.ensures.ok;
  shorter = omega (arith, c.others.invariant.shorter, c.in_ok-other.ensures.shorter, c.behind.ensures.shorter, c.others-test.ensures.some refl);
}

pub parens-returns-in_err-rest-clause-reads : goal.parens-returns-in_err-rest-clause-reads
parens-returns-in_err-rest-clause-reads t c =
    let p = err_from_is_err_and c.from_residual-in_err-rest.result c.from_residual-in_err-rest.ensures.1 in
    rw (p.1, p.2) (parens_fail _ _ _ _ _ (parts_stop (patterns_read (c.args.room - 1)).whole Comma _ (parens_from _) (λ n. refl) _ _ [] c.others.invariant.reads (sym c.others-test.ensures.is)) c.in_err-rest.ensures.reads)

pub parens-returns-clause-reads : goal.parens-returns-clause-reads
parens-returns-clause-reads t c = parens_stop _ _ _ _ _ _ (parts_stop (patterns_read (c.args.room - 1)).whole Comma _ (parens_from _) (λ n. refl) _ _ [] c.others.invariant.reads (sym c.others-test.ensures.is)) c.in_ok-rest.ensures.reads c.in_ok-in_parens.ensures

pub con-returns-clause-reads : goal.con-returns-clause-reads
con-returns-clause-reads t c = con_stop c.name.inside.bytes.items c.in_ok-name.name _ c.parts.parts _ c.name.view_is (beside_stop starts_pat (patterns (c.args.room - 1)).atom (atoms_shrink (c.args.room - 1)) _ (con_from c.name.inside.bytes.items) (λ n. refl) _ _ c.parts.invariant.reads (sym c.parts-test.ensures.is))
