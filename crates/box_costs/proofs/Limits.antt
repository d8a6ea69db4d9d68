-- A core that breaks no rule on costs keeps the limits of each box.
use Rattle.std.proofs.Common.{◌≡◌, ◌≤◌, ◌<◌, ℕ, None, Some, slice_get, refl, inl, inr, arith}
use Rattle.hume_base.specs.Least.{IsLeast}
use Rattle.hume_base.specs.declared.limits.TheConstants.{MAX_HEAP_WORDS, MAX_STACK_WORDS, MAX_WORK}
use Rattle.hume_base.specs.declared.rule.Rule.TheVariants.{C75, C76, C79}
use Rattle.hume_model.specs.declared.core_tree.BoxC.{BoxC}
use Rattle.hume_model.specs.declared.core_tree.NodeC.TheVariants.{Rules}
use Rattle.hume_model.specs.declared.core_tree.Core.{Core}
use Rattle.hume_model.specs.Declarations.{declaration_of}
use Rattle.box_costs.specs.Bounds.{box_bound}
use Rattle.box_costs.specs.CostRules.{BreaksCosts}

not_above : (most n : ℕ) → (most < n → ⊥) → n ≤ most
not_above most n h = omega (arith, h)

module _ (core : Core) (within : IsLeast (BreaksCosts core) None) (n : ℕ) (b : BoxC) (there : slice_get core.nodes n ≡ Some (Rules b)) where
  pub small_heap : (box_bound core b).heap ≤ MAX_HEAP_WORDS
  small_heap =
      not_above MAX_HEAP_WORDS (box_bound core b).heap (λ over. within (record { rule = C75; declaration = declaration_of (Rules b) })
      (inl (refl, record { n = n; node = Rules b; there = there; declared = refl; holds = over })))

  pub small_stack : (box_bound core b).stack ≤ MAX_STACK_WORDS
  small_stack =
      not_above MAX_STACK_WORDS (box_bound core b).stack (λ over. within (record { rule = C76; declaration = declaration_of (Rules b) })
      (inr (inl (refl, record { n = n; node = Rules b; there = there; declared = refl; holds = over }))))

  pub small_work : (box_bound core b).work ≤ MAX_WORK
  small_work =
      not_above MAX_WORK (box_bound core b).work (λ over. within (record { rule = C79; declaration = declaration_of (Rules b) })
      (inr (inr (inr (refl, record { n = n; node = Rules b; there = there; declared = refl; holds = over })))))
