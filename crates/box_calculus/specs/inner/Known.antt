-- What is known of the result of a rule.
use Rattle.std.specs.Prelude.{ℕ, ◌+◌, ◌==◌, ◌&&◌, Option, Some, None, length, slice_get, IfSome, if◌then◌else◌}
use Rattle.hume_model.specs.declared.core_tree.RuleC.{RuleC}
use Rattle.hume_model.specs.declared.core_tree.BoxC.{BoxC}
use Rattle.hume_model.specs.declared.core_tree.Core.{Core}
use Rattle.calculus_laws.specs.Boxes.{box_at}
use Rattle.calculus_laws.specs.Naming.{variables}
use Rattle.calculus_unfolding.specs.inner.Changes.{alone}
use Rattle.calculus_unfolding.specs.inner.Clear.{IsClear}
use Rattle.box_calculus.specs.declared.sizes.Size.{Size}
use Rattle.box_calculus.specs.declared.known.Known.{Known}
use Rattle.box_calculus.specs.inner.Sizes.{AddWithin, IsWithin}

-- the rule of a box that may be there has a result within the size, if there is such a rule
abbrev pub RuleWithin : ℕ → Size → BoxC → Type 0
RuleWithin rule size b = IfSome (slice_get b.rules rule) (λ (old : RuleC). IsWithin size old.result)

-- no call can be unfolded in so many first alternatives of the result of the rule, if there is such a rule
abbrev pub RuleClear : Core → ℕ → ℕ → BoxC → Type 0
RuleClear core rule count b =
    IfSome (slice_get b.rules rule) (λ (old : RuleC). IsClear (alone core.funs) (length (variables core.types b old)) count old.result)

-- the rule's result is within its size and has so many first alternatives without a call to unfold, and no function adds more than is known
pub record IsKnown (core : Core) (known : Known) : Type 0 where
  pub size : IfSome (box_at core known.node) (RuleWithin known.rule known.size)
  pub clear : IfSome (box_at core known.node) (RuleClear core known.rule known.clear)
  pub most : AddWithin known.most core.funs

-- both sizes together
abbrev pub sum_of : Size → Size → Size
sum_of first second = record { parts = first.parts + second.parts; depth = first.depth + second.depth }

-- the size that the rule's result has at most after a step, if the rule is the known one
abbrev pub grown : ℕ → ℕ → Known → Option Size
grown node rule known = if known.node == node && known.rule == rule then Some (sum_of known.size known.most) else None

-- how many first alternatives of the rule's result are known to have no call to unfold, if the rule is the known one
abbrev pub clear_of : ℕ → ℕ → Option Known → ℕ
clear_of node rule None = 0
clear_of node rule (Some known) = if known.node == node && known.rule == rule then known.clear else 0
