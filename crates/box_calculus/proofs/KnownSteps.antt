-- What is known of the result of a rule before a step that unfolds a call in it, and after it.
use Rattle.std.proofs.Common.{◌≡◌, ℕ, ◌<◌, ◌==◌, ◌&&◌, Bool, true, false, List, length, Option, Some, None, slice_get, refl, ap, sym, ◌∙◌, subst, arith, if◌then◌else◌}
use Rattle.std.specs.Prelude.{IfSome, slice_set}
use Rattle.std.specs.Option.{option_and_then, option_map}
use Rattle.std.proofs.lemmas.Bool.{and_parts, eqb-true}
use Rattle.hume_model.specs.declared.core_tree.Res.{Res}
use Rattle.hume_model.specs.declared.core_tree.FunC.{FunC}
use Rattle.hume_model.specs.declared.core_tree.RuleC.{RuleC}
use Rattle.hume_model.specs.declared.core_tree.BoxC.{BoxC}
use Rattle.hume_model.specs.declared.core_tree.Core.{Core}
use Rattle.calculus_laws.specs.Boxes.{box_at, with_box}
use Rattle.calculus_laws.specs.Unfolding.{unfold_refusal}
use Rattle.calculus_laws.proofs.Unfolds.{Becomes}
use Rattle.calculus_unfolding.specs.inner.Changes.{alone, result_changed}
use Rattle.box_calculus.specs.declared.known.Known.{Known}
use Rattle.box_calculus.specs.declared.known.Seen.{Seen}
use Rattle.box_calculus.specs.declared.sizes.Size.{Size}
use Rattle.box_calculus.specs.inner.Known.{IsKnown, RuleClear, RuleWithin, grown, sum_of}
use Rattle.box_calculus.specs.inner.Sizes.{AddWithin, IsWithin}
use Rattle.box_calculus.specs.inner.Unfolded.{rule_changed, with_result}
use Rattle.box_calculus.proofs.ClearSteps.{box_made, no_rule, set_there}
use Rattle.box_calculus.proofs.Grown.{ResultGrown, result_grows}

-- a grown result is within both sizes together
within_both : (size more : Size) (scope : ℕ) (old new : Res) → IsWithin size old → ResultGrown more scope old new → IsWithin (sum_of size more) new
within_both size more scope old new within grows =
    let p = within.parts in
    let d = within.depth in
    let gp = grows.parts in
    let gd = grows.depth in
    record { parts = omega (arith, p, gp); depth = omega (arith, d, gd) }

-- what is known of the functions of a core
pub most_holds : (core : Core) (funs : List FunC) (known : Option Known) → funs ≡ core.funs → IfSome known (IsKnown core)
    → IfSome known (λ it. AddWithin it.most funs)
most_holds core funs None same is = tt
most_holds core funs (Some known) same is = subst (AddWithin known.most) (sym same) is.most

module _ (funs : List FunC) (node n scope : ℕ) where
  -- what becomes of a rule is within the size
  abbrev pub ChangedWithin : Size → RuleC → Type 0
  ChangedWithin size old = IfSome (rule_changed (alone funs) scope old) (λ new. IsWithin size new.result)

  changed_within : (size more : Size) (old : RuleC) (o : Option Res) → Becomes (ResultGrown more scope old.result) o → IsWithin size old.result
      → IfSome (option_map (with_result old) o) (λ (new : RuleC). IsWithin (sum_of size more) new.result)
  changed_within size more old None grows within = tt
  changed_within size more old (Some new) grows within = within_both size more scope old.result new within grows

  rule_grows : (size more : Size) → AddWithin more funs → (o : Option RuleC) → IfSome o (λ old. IsWithin size old.result)
      → IfSome o (ChangedWithin (sum_of size more))
  rule_grows size more most None within = tt
  rule_grows size more most (Some old) within =
      changed_within size more old (result_changed (alone funs) scope old.result) (result_grows (alone funs) more most old.result scope) within

  known_grows : (core : Core) (b : BoxC) (known : Known) (size : Size) → funs ≡ core.funs → box_at core node ≡ Some b → IsKnown core known
      → grown node n known ≡ Some size → IfSome (slice_get b.rules n) (ChangedWithin size)
  known_grows core b known size same there is expected = by (known.node == node && known.rule == n) refl expected
    where
      by : (here : Bool) → (known.node == node && known.rule == n) ≡ here → (if here then Some (sum_of known.size known.most) else None) ≡ Some size
          → IfSome (slice_get b.rules n) (ChangedWithin size)
      by false other grows = cc
      by true here grows =
          let both = and_parts _ _ here in
          let at_node = eqb-true known.node node both.0 in
          let at_rule = eqb-true known.rule n both.1 in
          let sum : sum_of known.size known.most ≡ size = cc in
          let most : AddWithin known.most funs = subst (AddWithin known.most) (sym same) is.most in
          let at : IfSome (box_at core node) (RuleWithin n known.size) =
          subst (λ m. IfSome (box_at core m) (RuleWithin n known.size)) at_node (subst (λ r. IfSome (box_at core known.node) (RuleWithin r known.size)) at_rule is.size) in
          let old : RuleWithin n known.size b = subst (λ o. IfSome o (RuleWithin n known.size)) there at in
          subst (λ s. IfSome (slice_get b.rules n) (ChangedWithin s)) sum (rule_grows known.size known.most most (slice_get b.rules n) old)

  expected_one : (core : Core) (b : BoxC) (known : Option Known) (size : Size) → funs ≡ core.funs → box_at core node ≡ Some b → IfSome known (IsKnown core)
      → option_and_then (grown node n) known ≡ Some size → IfSome (slice_get b.rules n) (ChangedWithin size)
  expected_one core b None size same there is expected = cc
  expected_one core b (Some known) size same there is expected = known_grows core b known size same there is expected

  -- what is expected of the rule holds of what becomes of it
  pub expected_holds : (core : Core) (b : BoxC) (known : Option Known) (expected : Option Size) → funs ≡ core.funs → box_at core node ≡ Some b
      → IfSome known (IsKnown core) → IfSome expected (λ size. option_and_then (grown node n) known ≡ Some size)
      → IfSome expected (λ size. IfSome (slice_get b.rules n) (ChangedWithin size))
  expected_holds core b known None same there is expected = tt
  expected_holds core b known (Some size) same there is expected = expected_one core b known size same there is expected

  module _ (core made : Core) (b newb : BoxC) (seen : Seen) (there : box_at core node ≡ Some b) (is_made : made ≡ with_box core node newb) where
    new_rule : (old : RuleC) → slice_get b.rules n ≡ Some old → (o : Option RuleC) → unfold_refusal o ≡ None
        → IfSome o (λ new. newb ≡ record b { rules = slice_set b.rules n new }) → IfSome o (λ new. IsWithin seen.size new.result) → RuleWithin n seen.size newb
    new_rule old at None allowed set within = cc
    new_rule old at (Some new) allowed set within =
        let found : slice_get newb.rules n ≡ Some new = ap (λ (c : BoxC). slice_get c.rules n) set ∙ set_there b.rules n old new at in
        rw found within

    rule_after : (o : Option RuleC) → slice_get b.rules n ≡ o → n < length b.rules
        → IfSome o (λ old. unfold_refusal (rule_changed (alone funs) scope old) ≡ None)
        → IfSome o (λ old. IfSome (rule_changed (alone funs) scope old) (λ new. newb ≡ record b { rules = slice_set b.rules n new }))
        → IfSome o (ChangedWithin seen.size) → RuleWithin n seen.size newb
    rule_after None at below allowed set within = absurd (no_rule b.rules n below at)
    rule_after (Some old) at below allowed set within = new_rule old at (rule_changed (alone funs) scope old) allowed set within

    abbrev known_with : Size → Known
    known_with most = record { node = node; rule = n; size = seen.size; clear = seen.clear; most = most }

    known_is : (most : Option Size) → IfSome most (λ it. AddWithin it core.funs) → n < length b.rules
        → IfSome (slice_get b.rules n) (λ old. unfold_refusal (rule_changed (alone funs) scope old) ≡ None)
        → IfSome (slice_get b.rules n) (λ old. IfSome (rule_changed (alone funs) scope old) (λ new. newb ≡ record b { rules = slice_set b.rules n new }))
        → IfSome (slice_get b.rules n) (ChangedWithin seen.size) → IfSome (box_at made node) (RuleClear made n seen.clear)
        → IfSome (option_map known_with most) (IsKnown made)
    known_is None most below allowed set within clear = tt
    known_is (Some it) most below allowed set within clear = record {
      size = rw (box_made core made node b newb there is_made) (rule_after (slice_get b.rules n) refl below allowed set within);
      clear = clear;
      most = subst (λ (c : Core). AddWithin it c.funs) (sym is_made) most;
    }

    -- so it is known of the rule of the core that the step makes
    pub known_after : (most : Option Size) (known : Option Known) → known ≡ option_map known_with most → IfSome most (λ it. AddWithin it core.funs)
        → n < length b.rules → IfSome (slice_get b.rules n) (λ old. unfold_refusal (rule_changed (alone funs) scope old) ≡ None)
        → IfSome (slice_get b.rules n) (λ old. IfSome (rule_changed (alone funs) scope old) (λ new. newb ≡ record b { rules = slice_set b.rules n new }))
        → IfSome (slice_get b.rules n) (ChangedWithin seen.size) → IfSome (box_at made node) (RuleClear made n seen.clear) → IfSome known (IsKnown made)
    known_after most known given is below allowed set within clear =
        subst (λ k. IfSome k (IsKnown made)) (sym given) (known_is most is below allowed set within clear)
