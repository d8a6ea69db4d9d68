use Rattle.std.proofs.Common.{sym, refl, arith}
use Rattle.hume_base.specs.declared.limits.TheConstants.{MAX_DEPTH}
use Rattle.std.proofs.lemmas.Result.{err_from_is_err_and}
use Rattle.parse_readers.specs.inner.Types.{types}
use Rattle.parse_readers.specs.inner.Declarations.{starts_type}
use Rattle.parse_expressions.proofs.Loops.{beside_stop, beside_turn, beside_fail}
use Rattle.hume_parse.proofs.DeclSteps.{types_shrink}
use Rattle.hume_parse.proofs.declarations.types_beside.Goals as goal

pub returns-in_err-item-clause-reads : goal.returns-in_err-item-clause-reads
returns-in_err-item-clause-reads c =
    let p = err_from_is_err_and c.from_residual.result c.from_residual.ensures.1 in
    rw (p.1, p.2) (beside_fail starts_type (types MAX_DEPTH) (types_shrink MAX_DEPTH) _ (λ r. r) (λ n. refl) _ _ c.items.invariant.reads _ (sym c.items-test.ensures.is) c.in_err-item.ensures.reads)

pub items-preserved : goal.items-preserved
items-preserved c = record {
  reads = beside_turn starts_type (types MAX_DEPTH) (types_shrink MAX_DEPTH) _ (λ r. r) (λ n. refl) _ _ c.items.invariant.reads _ _ _ (sym c.items-test.ensures.is) c.in_ok-item.ensures.reads c.in_ok-push.ensures.ok;
  shorter = omega (arith, c.items.invariant.shorter, c.in_ok-item.ensures.shorter);
}

pub returns-clause-reads : goal.returns-clause-reads
returns-clause-reads c = beside_stop starts_type (types MAX_DEPTH) (types_shrink MAX_DEPTH) _ (λ r. r) (λ n. refl) _ _ c.items.invariant.reads (sym c.items-test.ensures.is)
