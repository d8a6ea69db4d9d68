use Rattle.std.proofs.Common.{◌≡◌, inl, inr, true, false, Some, slice_get, length, refl, sym, ap, subst, ◌∙◌, arith}
use Rattle.std.proofs.lemmas.Bool.{cases_eq}
use Rattle.std.proofs.lemmas.Option.{slice_get_read, slice_get_within}
use Rattle.hume_model.specs.declared.core_tree.RuleC.{RuleC}
use Rattle.hume_model.specs.HandlerRules.{has_handler}
use Rattle.hume_model.specs.Raising.{result_may_raise}
use Rattle.hume_exceptions.specs.Sets.{IsSetOf}
use Rattle.hume_exceptions.proofs.BoxFindings.{rule_breaks, rule_beyond}
use Rattle.hume_exceptions.proofs.handlers.leaves_unhandled.Goals as goal

pub returns-then-is_beyond : goal.returns-then-is_beyond
returns-then-is_beyond c =
    let core = c.args.core.now in
    let b = c.args.b.now in
    let item = c.index-rules-number.result in
    let k = c.loop-number.number in
    let here : slice_get c.as_slice-rules.result.now k ≡ Some item = slice_get_read _ _ k item refl c.loop-number-test.true c.index-rules-number.is in
    let raised : IsSetOf c.result_may_raise-set.result (λ exn. result_may_raise core exn item.result) =
    subst (λ (x : RuleC). IsSetOf c.result_may_raise-set.result (λ exn. result_may_raise core exn x.result)) (sym c.index-rules-number.is) c.result_may_raise-set.ensures in
    let at : slice_get b.rules k ≡ Some item = rw c.as_slice-rules.ensures at here in
    let handled : IsSetOf c.handled_set-handled.result (λ exn. has_handler b.handlers exn) = rw c.as_slice.ensures at c.handled_set-handled.ensures in
    ((λ h. rule_breaks core b c.requires.frame.limits.exceptions c.len.result c.len.ensures c.result_may_raise-set.result c.handled_set-handled.result k item at raised handled (c.is_beyond.ensures.0 c.if-is_beyond.true)), (λ broken. refl))

pub loop-number-preserved : goal.loop-number-preserved
loop-number-preserved c broken before =
    let core = c.args.core.now in
    let b = c.args.b.now in
    let item = c.index-rules-number.result in
    let k = c.loop-number.number in
    let here : slice_get c.as_slice-rules.result.now k ≡ Some item = slice_get_read _ _ k item refl c.loop-number-test.true c.index-rules-number.is in
    let raised : IsSetOf c.result_may_raise-set.result (λ exn. result_may_raise core exn item.result) =
    subst (λ (x : RuleC). IsSetOf c.result_may_raise-set.result (λ exn. result_may_raise core exn x.result)) (sym c.index-rules-number.is) c.result_may_raise-set.ensures in
    let at : slice_get b.rules k ≡ Some item = rw c.as_slice-rules.ensures at here in
    let handled : IsSetOf c.handled_set-handled.result (λ exn. has_handler b.handlers exn) = rw c.as_slice.ensures at c.handled_set-handled.ensures in
    elim (cases_eq broken.number k) [
      | inl same ↦ (let h : false ≡ true = sym c.if-is_beyond.false ∙ c.is_beyond.ensures.1 (rule_beyond core b c.requires.frame.limits.exceptions c.len.result c.len.ensures c.result_may_raise-set.result c.handled_set-handled.result k item at raised handled broken same) in cc)
      | inr other ↦ c.loop-number.invariant broken (omega arith)
    ]

pub returns : goal.returns
returns c = (
  (λ h. (let g : false ≡ true = h in cc)),
  (λ broken. (
      let within = slice_get_within c.args.b.now.rules broken.number broken.rule broken.there in
      let e = c.as_slice-rules.ensures in
      let h = ap length e in
      absurd (c.loop-number.invariant broken (omega arith)))),
)
