use Rattle.std.proofs.Common.{sym, refl, arith, []}
use Rattle.std.proofs.lemmas.Result.{err_from_is_err_and}
use Rattle.parse_expressions.proofs.Loops.{parts_stop, parts_turn, parts_fail}
use Rattle.parse_readers.proofs.TypesRead.{types_read}
use Rattle.parse_expressions.proofs.types.+types.Goals as goal

pub type_list-returns-in_err-item-clause-reads : goal.type_list-returns-in_err-item-clause-reads
type_list-returns-in_err-item-clause-reads t c =
    let p = err_from_is_err_and c.from_residual-in_err-item.result c.from_residual-in_err-item.ensures.1 in
    rw (p.1, p.2) (parts_fail (types_read c.args.room) c.args.symbol _ (λ r. r) (λ n. refl) _ _ _ c.items.invariant.reads _ (sym c.items-test.ensures.is) c.behind.ensures.kinds c.in_err-item.ensures.reads)

pub type_list-items-preserved : goal.type_list-items-preserved
type_list-items-preserved t c = record {
  reads = parts_turn (types_read c.args.room) c.args.symbol _ (λ r. r) (λ n. refl) _ _ _ c.items.invariant.reads _ _ _ (sym c.items-test.ensures.is) c.behind.ensures.kinds c.in_ok-item.ensures.reads c.in_ok-push-2.ensures.ok;
  shorter = omega (arith, c.items.invariant.shorter, c.in_ok-item.ensures.shorter, c.behind.ensures.shorter, c.items-test.ensures.some refl);
}

pub type_list-returns-clause-reads : goal.type_list-returns-clause-reads
type_list-returns-clause-reads t c = parts_stop (types_read c.args.room) c.args.symbol _ (λ r. r) (λ n. refl) _ _ [] c.items.invariant.reads (sym c.items-test.ensures.is)
