use Rattle.std.proofs.Common.{sym, refl, arith}
use Rattle.hume_base.specs.declared.limits.TheConstants.{MAX_DEPTH}
use Rattle.std.proofs.lemmas.Result.{err_from_is_err_and}
use Rattle.parse_readers.specs.inner.Patterns.{patterns, starts_pat}
use Rattle.parse_readers.proofs.PatternsRead.{atoms_shrink}
use Rattle.parse_expressions.proofs.Loops.{beside_stop, beside_turn, beside_fail}
use Rattle.hume_parse.proofs.functions.some_patterns.Goals as goal

pub returns-in_err-item-clause-reads : goal.returns-in_err-item-clause-reads
returns-in_err-item-clause-reads c =
    let p = err_from_is_err_and c.from_residual-in_err-item.result c.from_residual-in_err-item.ensures.1 in
    rw (p.1, p.2) (beside_fail starts_pat (patterns MAX_DEPTH).atom (atoms_shrink MAX_DEPTH) _ (λ r. r) (λ n. refl) _ _ c.items.invariant.reads _ (sym c.items-test.ensures.is) c.in_err-item.ensures.reads)

pub items-preserved : goal.items-preserved
items-preserved c = record {
  reads = beside_turn starts_pat (patterns MAX_DEPTH).atom (atoms_shrink MAX_DEPTH) _ (λ r. r) (λ n. refl) _ _ c.items.invariant.reads _ _ _ (sym c.items-test.ensures.is) c.in_ok-item.ensures.reads c.in_ok-push-2.ensures.ok;
  shorter = omega (arith, c.items.invariant.shorter, c.in_ok-item.ensures.shorter);
}

pub returns-clause-reads : goal.returns-clause-reads
returns-clause-reads c = beside_stop starts_pat (patterns MAX_DEPTH).atom (atoms_shrink MAX_DEPTH) _ (λ r. r) (λ n. refl) _ _ c.items.invariant.reads (sym c.items-test.ensures.is)
