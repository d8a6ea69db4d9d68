use Rattle.std.proofs.Common.{◌≡◌, inl, inr, true, false, Some, slice_get, length, refl, sym, ap, subst, ◌∙◌, arith}
use Rattle.std.proofs.lemmas.Bool.{cases_eq}
use Rattle.std.proofs.lemmas.Option.{slice_get_read, slice_get_within}
use Rattle.hume_model.specs.declared.core_tree.HandC.{HandC}
use Rattle.hume_model.specs.Raising.{result_may_raise}
use Rattle.hume_exceptions.specs.Sets.{IsSetOf}
use Rattle.hume_exceptions.proofs.BoxFindings.{handler_breaks, handler_beyond}
use Rattle.hume_exceptions.proofs.handlers.raises_again.Goals as goal

pub returns-then-is_beyond : goal.returns-then-is_beyond
returns-then-is_beyond c =
    let core = c.args.core.now in
    let b = c.args.b.now in
    let item = c.index-handlers-number.result in
    let k = c.loop-number.number in
    let here : slice_get c.as_slice-handlers.result.now k ≡ Some item = slice_get_read _ _ k item refl c.loop-number-test.true c.index-handlers-number.is in
    let raised : IsSetOf c.result_may_raise-set.result (λ exn. result_may_raise core exn item.result) =
    subst (λ (x : HandC). IsSetOf c.result_may_raise-set.result (λ exn. result_may_raise core exn x.result)) (sym c.index-handlers-number.is) c.result_may_raise-set.ensures in
    let at : slice_get b.handlers k ≡ Some item = rw c.as_slice-handlers.ensures at here in
    ((λ h. handler_breaks core b c.requires.frame.limits.exceptions c.len.result c.len.ensures c.result_may_raise-set.result c.empty.result k item at raised c.empty.ensures (c.is_beyond.ensures.0 c.if-is_beyond.true)), (λ broken. refl))

pub loop-number-preserved : goal.loop-number-preserved
loop-number-preserved c broken before =
    let core = c.args.core.now in
    let b = c.args.b.now in
    let item = c.index-handlers-number.result in
    let k = c.loop-number.number in
    let here : slice_get c.as_slice-handlers.result.now k ≡ Some item = slice_get_read _ _ k item refl c.loop-number-test.true c.index-handlers-number.is in
    let raised : IsSetOf c.result_may_raise-set.result (λ exn. result_may_raise core exn item.result) =
    subst (λ (x : HandC). IsSetOf c.result_may_raise-set.result (λ exn. result_may_raise core exn x.result)) (sym c.index-handlers-number.is) c.result_may_raise-set.ensures in
    let at : slice_get b.handlers k ≡ Some item = rw c.as_slice-handlers.ensures at here in
    elim (cases_eq broken.number k) [
      | inl same ↦ (let h : false ≡ true = sym c.if-is_beyond.false ∙ c.is_beyond.ensures.1 (handler_beyond core b c.requires.frame.limits.exceptions c.len.result c.len.ensures c.result_may_raise-set.result c.empty.result k item at raised c.empty.ensures broken same) in cc)
      | inr other ↦ c.loop-number.invariant broken (omega arith)
    ]

pub returns : goal.returns
returns c = (
  (λ h. (let g : false ≡ true = h in cc)),
  (λ broken. (
      let within = slice_get_within c.args.b.now.handlers broken.number broken.handler broken.there in
      let e = c.as_slice-handlers.ensures in
      let h = ap length e in
      absurd (c.loop-number.invariant broken (omega arith)))),
)
