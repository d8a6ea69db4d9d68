use Rattle.std.proofs.Common.{◌≡◌, None, IfOk}
use Rattle.std.proofs.lemmas.Result.{IfOk-weaker}
use Rattle.check_signatures.specs.inner.Named.{numbers_in, IsUnwritten}
use Rattle.check_signatures.proofs.Existing.{all_is_written}
use Rattle.check_signatures.proofs.Meant.{found_are, no_signatures, told_once}
use Rattle.check_signatures.proofs.ordered.signatures_of.Goals as goal

pub returns-clause-are : goal.returns-clause-are
returns-clause-are c =
    IfOk-weaker c.written_signatures.result _ _
    (λ found h.
    found_are c.args.decls.now c.in_ok-data_order.data_order c.in_ok-functions.functions c.in_ok-data_order.ensures c.in_ok-functions.ensures
    c.in_ok-names.names c.as_slice.result.now c.as_slice-2.result.now c.in_ok-names.ensures c.as_slice.ensures c.as_slice-2.ensures found h)
    c.written_signatures.ensures.are

-- nothing is found only where something that is written has no type
unwritten : (c : goal.After-drop-data_order-inside-2) → IfOk c.written_signatures.result (λ found. found ≡ None
    → IsUnwritten (numbers_in c.args.decls.now c.in_ok-data_order.data_order) c.args.decls.now c.in_ok-data_order.data_order c.in_ok-functions.functions)
unwritten c =
    IfOk-weaker c.written_signatures.result _ _
    (λ found h is.
    told_once c.args.decls.now c.in_ok-data_order.data_order c.in_ok-functions.functions c.in_ok-names.names c.as_slice.result.now
    c.as_slice-2.result.now c.in_ok-names.ensures c.as_slice.ensures c.as_slice-2.ensures (h is))
    c.written_signatures.ensures.none

pub returns-clause-none : goal.returns-clause-none
returns-clause-none c =
    IfOk-weaker c.written_signatures.result _ _
    (λ found h is. no_signatures c.args.decls.now c.in_ok-data_order.data_order c.in_ok-functions.functions c.in_ok-data_order.ensures
    c.in_ok-functions.ensures (h is))
    (unwritten c)

pub returns-clause-fine : goal.returns-clause-fine
returns-clause-fine c =
    IfOk-weaker c.written_signatures.result _ _
    (λ found h bound fit named counts is. all_is_written c.args.decls.now c.in_ok-data_order.data_order c.in_ok-data_order.ensures named counts bound fit
    c.in_ok-functions.functions (h is))
    (unwritten c)
