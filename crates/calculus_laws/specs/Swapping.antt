-- Swap: a rule and the next one change places. It is refused where that could change which rule fires.
use Rattle.std.specs.Prelude.{ℕ, zero, suc, ◌+◌, List, [], ◌∷◌, Option, Some, None, if◌then◌else◌, slice_get}
use Rattle.hume_model.specs.declared.core_tree.RuleC.{RuleC}
use Rattle.hume_model.specs.declared.core_tree.BoxC.{BoxC}
use Rattle.calculus_laws.specs.declared.step.CalcError.{CalcError}
use Rattle.calculus_laws.specs.declared.step.CalcError.TheVariants.{CannotSwap, NotApart}
use Rattle.calculus_laws.specs.Apart.{some_apart_at}

-- the element at a place and the next one change places; where there is no next one nothing does
abbrev pub exchanged : {X : Type 0} → ℕ → List X → List X
exchanged place [] = []
exchanged place (first ∷ []) = first ∷ []
exchanged zero (first ∷ next ∷ later) = next ∷ first ∷ later
exchanged (suc place) (first ∷ next ∷ later) = first ∷ exchanged place (next ∷ later)

-- the box with the rule and the next one exchanged
abbrev pub swapped_box : ℕ → BoxC → BoxC
swapped_box rule b = record b { rules = exchanged rule b.rules }

-- two rules may change places only if they are apart; after the last rule there is none
abbrev pub pair_refusal : Option RuleC → Option RuleC → Option CalcError
pair_refusal (Some rule) (Some next) = if some_apart_at rule.pats next.pats then None else Some NotApart
pair_refusal _ next = Some CannotSwap

-- why a rule of the box may not change places with the next one: which rule fires in a fair box doesn't depend on their places alone
abbrev pub swap_refusal : BoxC → ℕ → Option CalcError
swap_refusal b rule = if b.fair then Some CannotSwap else pair_refusal (slice_get b.rules rule) (slice_get b.rules (rule + 1))
