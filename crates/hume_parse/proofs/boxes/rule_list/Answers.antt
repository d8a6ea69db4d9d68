use Rattle.std.proofs.Common.{sym, refl, arith, []}
use Rattle.hume_base.specs.declared.limits.TheConstants.{MAX_DEPTH}
use Rattle.std.proofs.lemmas.Result.{err_from_is_err_and}
use Rattle.hume_base.specs.declared.symbol.Symbol.TheVariants.{Bar}
use Rattle.parse_readers.proofs.DeclarationParts.{rule_reads}
use Rattle.parse_expressions.proofs.Loops.{parts_stop, parts_turn, parts_fail}
use Rattle.hume_parse.proofs.boxes.rule_list.Goals as goal

pub returns-in_err-item-clause-reads : goal.returns-in_err-item-clause-reads
returns-in_err-item-clause-reads c =
    let p = err_from_is_err_and c.from_residual-in_err-item.result c.from_residual-in_err-item.ensures.1 in
    rw (p.1, p.2) (parts_fail (rule_reads MAX_DEPTH) Bar _ (λ r. r) (λ n. refl) _ _ _ c.items.invariant.reads _ (sym c.items-test.ensures.is) c.behind.ensures.kinds c.in_err-item.ensures.reads)

pub items-preserved : goal.items-preserved
items-preserved c = record {
  reads = parts_turn (rule_reads MAX_DEPTH) Bar _ (λ r. r) (λ n. refl) _ _ _ c.items.invariant.reads _ _ _ (sym c.items-test.ensures.is) c.behind.ensures.kinds c.in_ok-item.ensures.reads c.in_ok-push-2.ensures.ok;
  shorter = omega (arith, c.items.invariant.shorter, c.in_ok-item.ensures.shorter, c.behind.ensures.shorter, c.items-test.ensures.some refl);
}

pub returns-clause-reads : goal.returns-clause-reads
returns-clause-reads c = parts_stop (rule_reads MAX_DEPTH) Bar _ (λ r. r) (λ n. refl) _ _ [] c.items.invariant.reads (sym c.items-test.ensures.is)
