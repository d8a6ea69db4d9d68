-- What an unfolded rule is, by the functions of a core and by how many variables the rule has.
use Rattle.std.proofs.Common.{◌≡◌, ◌⊎◌, inl, inr, ℕ, zero, suc, ◌<◌, List, [], ◌∷◌, length, Option, Some, None, slice_get, refl, ap, sym, ◌∙◌, subst, arith}
use Rattle.std.specs.Prelude.{IfSome, slice_set}
use Rattle.std.specs.List.{slice_index_or}
use Rattle.std.specs.Option.{option_and_then, option_map}
use Rattle.std.proofs.lemmas.Grind.{common_steps}
use Rattle.std.proofs.lemmas.Option.{get_or_from_slice_get}
use Rattle.hume_base.specs.declared.types.Types.{Types}
use Rattle.hume_model.specs.declared.core_tree.Res.{Res}
use Rattle.hume_model.specs.declared.core_tree.FunC.{FunC}
use Rattle.hume_model.specs.declared.core_tree.RuleC.{RuleC}
use Rattle.hume_model.specs.declared.core_tree.BoxC.{BoxC}
use Rattle.hume_model.specs.declared.core_tree.ExnDef.{ExnDef}
use Rattle.hume_model.specs.declared.core_tree.NodeC.{NodeC}
use Rattle.hume_model.specs.declared.core_tree.NodeC.TheVariants.{Rules}
use Rattle.hume_model.specs.declared.core_tree.WireC.{WireC}
use Rattle.hume_model.specs.declared.core_tree.Core.{Core}
use Rattle.calculus_laws.specs.declared.step.CalcError.{CalcError}
use Rattle.calculus_laws.specs.declared.step.CalcError.TheVariants.{NoMemory}
use Rattle.calculus_laws.specs.declared.step.Step.TheVariants.{Unfold}
use Rattle.calculus_laws.specs.Boxes.{as_box, box_at, with_box}
use Rattle.calculus_laws.specs.Naming.{variables}
use Rattle.calculus_laws.specs.Steps.{box_refusal, refusal, rewritten, rewritten_at}
use Rattle.calculus_laws.specs.Unfolding.{unfold_refusal, unfolded_at, unfolded_core, unfolded_rule}
use Rattle.calculus_unfolding.specs.inner.Changes.{alone, result_changed}
use Rattle.calculus_unfolding.proofs.Alone.{result_changed_alone}
use Rattle.box_calculus.specs.inner.Unfolded.{result_refusal, rule_changed, with_result}

pub refusal_same : (rule : RuleC) (o : Option Res) → unfold_refusal (option_map (with_result rule) o) ≡ result_refusal o
refusal_same rule None = refl
refusal_same rule (Some new) = refl

pub unfolded_is : (core : Core) (b : BoxC) (n scope : ℕ) (old : RuleC) → slice_get b.rules n ≡ Some old → scope ≡ length (variables core.types b old)
    → unfolded_at core b n ≡ rule_changed (alone core.funs) scope old
unfolded_is core b n scope old there is =
    ap (option_and_then (unfolded_rule core b)) there
    ∙ ap (λ count. option_map (with_result old) (result_changed core count old.result)) (sym is)
    ∙ ap (option_map (with_result old)) (sym (result_changed_alone core scope old.result))

-- the box of the node that was looked up stands there
pub box_there : (core : Core) (node : ℕ) (a b : BoxC) (nodes : List NodeC) (found : NodeC) → box_at core node ≡ Some a → nodes ≡ core.nodes
    → found ≡ slice_index_or nodes node found → found ≡ Rules b → box_at core node ≡ Some b
box_there core node a b nodes found there same at is = by (slice_get core.nodes node) refl there
  where
    by : (o : Option NodeC) → slice_get core.nodes node ≡ o → option_and_then as_box o ≡ Some a → option_and_then as_box o ≡ Some b
    by None none missing = cc
    by (Some x) here known =
        ap as_box (sym (get_or_from_slice_get core.nodes node x found here) ∙ ap (λ ns. slice_index_or ns node found) (sym same) ∙ sym at ∙ is)

-- it is the one whose rule the step is about
pub rule_within : (core : Core) (node n : ℕ) (a b : BoxC) → box_at core node ≡ Some a → box_at core node ≡ Some b → n < length a.rules → n < length b.rules
rule_within core node n a b one other within = (let same : a ≡ b = cc in subst (λ (x : BoxC). n < length x.rules) same within)

-- a core whose parts are those of another one, but for a box
pub placed : (core : Core) (node : ℕ) (new : BoxC) (types : Types) (exns : List ExnDef) (funs : List FunC) (nodes : List NodeC) (wires : List WireC)
    → types ≡ core.types → exns ≡ core.exns → funs ≡ core.funs → nodes ≡ slice_set core.nodes node (Rules new) → wires ≡ core.wires
    → record { types = types; exns = exns; funs = funs; nodes = nodes; wires = wires } ≡ with_box core node new
placed core node new types exns funs nodes wires t e f n w = λ i. record { types = t i; exns = e i; funs = f i; nodes = n i; wires = w i }

no_rule : (rules : List RuleC) (n : ℕ) → n < length rules → slice_get rules n ≡ None → ⊥
no_rule [] n within none = omega arith
no_rule (rule ∷ rules) zero within none = cc
no_rule (rule ∷ rules) (suc n) within none = no_rule rules n (omega arith) none

module _ (core : Core) (node n scope : ℕ) (b : BoxC) (funs : List FunC) (same : funs ≡ core.funs) where
  -- so many variables are in scope in the rule
  abbrev InScope : RuleC → Type 0
  InScope old = scope ≡ length (variables core.types b old)

  -- why the rule may not be unfolded, if there is a cause
  abbrev HasCause : Option CalcError → RuleC → Type 0
  HasCause cause old = unfold_refusal (rule_changed (alone funs) scope old) ≡ cause

  -- another box has what becomes of the rule in its place
  abbrev IsMade : BoxC → RuleC → Type 0
  IsMade new old = IfSome (rule_changed (alone funs) scope old) (λ other. new ≡ record b { rules = slice_set b.rules n other })

  -- the box stands there, and its rule has so many variables
  abbrev Counted : Type 0
  Counted = IfSome (box_at core node) (λ a. IfSome (slice_get a.rules n) (λ old. scope ≡ length (variables core.types a old)))

  unfolded_by : (old : RuleC) → slice_get b.rules n ≡ Some old → InScope old → unfolded_at core b n ≡ rule_changed (alone funs) scope old
  unfolded_by old is counted = unfolded_is core b n scope old is counted ∙ ap (λ fs. rule_changed (alone fs) scope old) (sym same)

  cause_at : (cause : Option CalcError) (o : Option RuleC) → slice_get b.rules n ≡ o → n < length b.rules → IfSome o InScope → IfSome o (HasCause cause)
      → unfold_refusal (unfolded_at core b n) ≡ cause
  cause_at cause None none within counted holds = absurd (no_rule b.rules n within none)
  cause_at cause (Some old) is within counted holds = ap unfold_refusal (unfolded_by old is counted) ∙ holds

  becomes : (new : BoxC) (o : Option RuleC) → unfold_refusal o ≡ None → IfSome o (λ other. new ≡ record b { rules = slice_set b.rules n other })
      → unfolded_core core node n b o ≡ with_box core node new
  becomes new None allowed made = cc
  becomes new (Some other) allowed made = ap (with_box core node) (sym made)

  made_at : (new : BoxC) (o : Option RuleC) → slice_get b.rules n ≡ o → n < length b.rules → IfSome o InScope → IfSome o (HasCause None)
      → IfSome o (IsMade new) → unfolded_core core node n b (unfolded_at core b n) ≡ with_box core node new
  made_at new None none within counted allowed made = absurd (no_rule b.rules n within none)
  made_at new (Some old) is within counted allowed made =
      ap (unfolded_core core node n b) (unfolded_by old is counted) ∙ becomes new (rule_changed (alone funs) scope old) allowed made

  counted_in : box_at core node ≡ Some b → Counted → IfSome (slice_get b.rules n) InScope
  counted_in there counted = subst (λ o. IfSome o (λ a. IfSome (slice_get a.rules n) (λ old. scope ≡ length (variables core.types a old)))) there counted

  pub refusal_is : (cause : Option CalcError) → box_at core node ≡ Some b → n < length b.rules → Counted
      → IfSome (slice_get b.rules n) (HasCause cause) → refusal core (Unfold node n) ≡ cause
  refusal_is cause there within counted holds =
      ap (option_and_then (box_refusal core (Unfold node n))) there ∙ cause_at cause (slice_get b.rules n) refl within (counted_in there counted) holds

  pub rewritten_is : (new : BoxC) → box_at core node ≡ Some b → n < length b.rules → Counted
      → IfSome (slice_get b.rules n) (HasCause None) → IfSome (slice_get b.rules n) (IsMade new) → rewritten core (Unfold node n) ≡ with_box core node new
  rewritten_is new there within counted allowed made =
      ap (rewritten_at core (Unfold node n)) there ∙ made_at new (slice_get b.rules n) refl within (counted_in there counted) allowed made

  pub refused_is : (error : CalcError) → box_at core node ≡ Some b → n < length b.rules → Counted
      → (error ≡ NoMemory) ⊎ IfSome (slice_get b.rules n) (HasCause (Some error)) → (error ≡ NoMemory) ⊎ (refusal core (Unfold node n) ≡ Some error)
  refused_is error there within counted (inl memory) = inl memory
  refused_is error there within counted (inr holds) = inr (refusal_is (Some error) there within counted holds)

pub ruleset refusal_steps = (common_steps, refusal_same)

pub ruleset unfold_steps = (common_steps, unfolded_is)
