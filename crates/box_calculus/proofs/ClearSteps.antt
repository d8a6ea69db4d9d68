-- How many first alternatives of the result of a rule have no call to unfold, before a step that unfolds a call in it, and after it.
use Rattle.std.proofs.Common.{◌≡◌, ℕ, zero, suc, ◌<◌, ◌==◌, ◌&&◌, Bool, true, false, List, [], ◌∷◌, length, Option, Some, None, slice_get, refl, ap, sym, ◌∙◌, subst, arith, if◌then◌else◌}
use Rattle.std.specs.Prelude.{IfSome, slice_set}
use Rattle.std.specs.Option.{option_and_then, option_map}
use Rattle.std.proofs.lemmas.Bool.{and_parts, eqb-true}
use Rattle.hume_model.specs.declared.core_tree.Res.{Res}
use Rattle.hume_model.specs.declared.core_tree.FunC.{FunC}
use Rattle.hume_model.specs.declared.core_tree.RuleC.{RuleC}
use Rattle.hume_model.specs.declared.core_tree.BoxC.{BoxC}
use Rattle.hume_model.specs.declared.core_tree.NodeC.TheVariants.{Rules}
use Rattle.hume_model.specs.declared.core_tree.Core.{Core}
use Rattle.calculus_laws.specs.Boxes.{as_box, box_at, with_box}
use Rattle.calculus_laws.specs.Naming.{variables}
use Rattle.calculus_laws.specs.Unfolding.{unfold_refusal}
use Rattle.calculus_laws.proofs.ChangedBox.{box_there}
use Rattle.calculus_unfolding.specs.inner.Changes.{alone, result_changed}
use Rattle.calculus_unfolding.specs.inner.Clear.{IsClear}
use Rattle.calculus_unfolding.proofs.ClearArms.{nothing_clear}
use Rattle.box_calculus.specs.declared.known.Known.{Known}
use Rattle.box_calculus.specs.inner.Known.{IsKnown, RuleClear, clear_of}
use Rattle.box_calculus.specs.inner.Unfolded.{rule_changed, with_result}

-- the element that was set is there
pub set_there : {X : Type 0} (xs : List X) (n : ℕ) (old new : X) → slice_get xs n ≡ Some old → slice_get (slice_set xs n new) n ≡ Some new
set_there [] n old new found = cc
set_there (x ∷ xs) zero old new found = refl
set_there (x ∷ xs) (suc n) old new found = set_there xs n old new found

-- the box of a core in which it was put there
pub box_made : (core made : Core) (node : ℕ) (b new : BoxC) → box_at core node ≡ Some b → made ≡ with_box core node new → box_at made node ≡ Some new
box_made core made node b new there is_made =
    ap (λ (c : Core). box_at c node) is_made
    ∙ ap (option_and_then as_box) (set_there core.nodes node (Rules b) (Rules new) (box_there core node b there))

pub no_rule : (rules : List RuleC) (n : ℕ) → n < length rules → slice_get rules n ≡ None → ⊥
no_rule [] n within none = omega arith
no_rule (rule ∷ rules) zero within none = cc
no_rule (rule ∷ rules) (suc n) within none = no_rule rules n (omega arith) none

module _ (funs : List FunC) (node n scope : ℕ) (core : Core) (b : BoxC) (same : funs ≡ core.funs) (there : box_at core node ≡ Some b) where
  -- so many variables are in scope in the rule
  abbrev InScope : BoxC → RuleC → Type 0
  InScope a old = scope ≡ length (variables core.types a old)

  -- no call can be unfolded in so many first alternatives of the rule's result
  abbrev IsClearRule : ℕ → RuleC → Type 0
  IsClearRule count old = IsClear (alone funs) scope count old.result

  rules_clear : (count : ℕ) (o : Option RuleC) → IfSome o (InScope b)
      → IfSome o (λ (old : RuleC). IsClear (alone core.funs) (length (variables core.types b old)) count old.result) → IfSome o (IsClearRule count)
  rules_clear count None counted clear = tt
  rules_clear count (Some old) counted clear =
      subst (λ fs. IsClear (alone fs) scope count old.result) (sym same)
      (subst (λ k. IsClear (alone core.funs) k count old.result) (sym counted) clear)

  none_known : (o : Option RuleC) → IfSome o (IsClearRule 0)
  none_known None = tt
  none_known (Some old) = nothing_clear (alone funs) scope old.result

  counted_in : IfSome (box_at core node) (λ a. IfSome (slice_get a.rules n) (InScope a)) → IfSome (slice_get b.rules n) (InScope b)
  counted_in counted = subst (λ o. IfSome o (λ a. IfSome (slice_get a.rules n) (InScope a))) there counted

  known_clear : (known : Known) (here : Bool) → (known.node == node && known.rule == n) ≡ here → IfSome (slice_get b.rules n) (InScope b) → IsKnown core known
      → IfSome (slice_get b.rules n) (IsClearRule (if here then known.clear else 0))
  known_clear known false other counted is = none_known (slice_get b.rules n)
  known_clear known true here counted is =
      let both = and_parts _ _ here in
      let at_node = eqb-true known.node node both.0 in
      let at_rule = eqb-true known.rule n both.1 in
      let at : IfSome (box_at core node) (RuleClear core n known.clear) =
      subst (λ m. IfSome (box_at core m) (RuleClear core n known.clear)) at_node
      (subst (λ r. IfSome (box_at core known.node) (RuleClear core r known.clear)) at_rule is.clear) in
      let old : RuleClear core n known.clear b = subst (λ o. IfSome o (RuleClear core n known.clear)) there at in
      rules_clear known.clear (slice_get b.rules n) counted old

  any_clear : (known : Option Known) → IfSome (slice_get b.rules n) (InScope b) → IfSome known (IsKnown core)
      → IfSome (slice_get b.rules n) (IsClearRule (clear_of node n known))
  any_clear None counted is = none_known (slice_get b.rules n)
  any_clear (Some known) counted is = known_clear known (known.node == node && known.rule == n) refl counted is

  -- what is known of the rule holds of it
  pub clear_holds : (known : Option Known) (count : ℕ) → IfSome (box_at core node) (λ a. IfSome (slice_get a.rules n) (InScope a))
      → IfSome known (IsKnown core) → count ≡ clear_of node n known → IfSome (slice_get b.rules n) (IsClearRule count)
  clear_holds known count counted is given =
      subst (λ k. IfSome (slice_get b.rules n) (IsClearRule k)) (sym given) (any_clear known (counted_in counted) is)

  module _ (made : Core) (newb : BoxC) (count : ℕ) (is_made : made ≡ with_box core node newb) where
    -- the box has what becomes of the rule in its place
    abbrev IsMade : RuleC → Type 0
    IsMade old = IfSome (rule_changed (alone funs) scope old) (λ new. newb ≡ record b { rules = slice_set b.rules n new })

    new_scope : (old : RuleC) (result : Res) → InScope b old → newb ≡ record b { rules = slice_set b.rules n (with_result old result) }
        → scope ≡ length (variables made.types newb (with_result old result))
    new_scope old result counted set =
        counted
        ∙ sym (ap (λ (x : BoxC). length (variables core.types x (with_result old result))) set)
        ∙ sym (ap (λ (c : Core). length (variables c.types newb (with_result old result))) is_made)

    new_clear : (old : RuleC) → slice_get b.rules n ≡ Some old → InScope b old → (o : Option Res) → unfold_refusal (option_map (with_result old) o) ≡ None
        → IfSome (option_map (with_result old) o) (λ new. newb ≡ record b { rules = slice_set b.rules n new })
        → IfSome (option_map (with_result old) o) (IsClearRule count) → RuleClear made n count newb
    new_clear old at counted None allowed set clear = cc
    new_clear old at counted (Some result) allowed set clear =
        let new = with_result old result in
        let found : slice_get newb.rules n ≡ Some new = ap (λ (c : BoxC). slice_get c.rules n) set ∙ set_there b.rules n old new at in
        let funs_same : funs ≡ made.funs = same ∙ sym (ap (λ (c : Core). c.funs) is_made) in
        let moved : IsClear (alone made.funs) (length (variables made.types newb new)) count result =
        subst (λ k. IsClear (alone made.funs) k count result) (new_scope old result counted set)
        (subst (λ fs. IsClear (alone fs) scope count result) funs_same clear) in
        subst (λ o. IfSome o (λ (x : RuleC). IsClear (alone made.funs) (length (variables made.types newb x)) count x.result)) (sym found) moved

    clear_made : (o : Option RuleC) → slice_get b.rules n ≡ o → n < length b.rules → IfSome o (InScope b)
        → IfSome o (λ old. unfold_refusal (rule_changed (alone funs) scope old) ≡ None) → IfSome o IsMade
        → IfSome o (λ old. IfSome (rule_changed (alone funs) scope old) (IsClearRule count)) → RuleClear made n count newb
    clear_made None at below counted allowed set clear = absurd (no_rule b.rules n below at)
    clear_made (Some old) at below counted allowed set clear =
        new_clear old at counted (result_changed (alone funs) scope old.result) allowed set clear

    -- so many first alternatives have none in the rule that the step makes
    pub clear_after : n < length b.rules → IfSome (box_at core node) (λ a. IfSome (slice_get a.rules n) (InScope a))
        → IfSome (slice_get b.rules n) (λ old. unfold_refusal (rule_changed (alone funs) scope old) ≡ None) → IfSome (slice_get b.rules n) IsMade
        → IfSome (slice_get b.rules n) (λ old. IfSome (rule_changed (alone funs) scope old) (IsClearRule count))
        → IfSome (box_at made node) (RuleClear made n count)
    clear_after below counted allowed set clear =
        subst (λ o. IfSome o (RuleClear made n count)) (sym (box_made core made node b newb there is_made))
        (clear_made (slice_get b.rules n) refl below (counted_in counted) allowed set clear)
