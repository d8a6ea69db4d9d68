-- What a core keeps that breaks no limit: heap and stack of its first nodes together are small.
use Rattle.std.proofs.Common.{◌≡◌, ℕ, zero, suc, ◌+◌, ◌<◌, ◌≤◌, inl, inr, List, [], ◌∷◌, length, Some, None, slice_get, refl, subst, arith}
use Rattle.std.proofs.lemmas.Bool.{cases_lt}
use Rattle.hume_base.specs.declared.limits.TheConstants.{MAX_SPACE_WORDS}
use Rattle.hume_base.specs.declared.rule.Rule.TheVariants.{C78}
use Rattle.hume_base.specs.Least.{IsLeast}
use Rattle.hume_model.specs.declared.core_tree.NodeC.{NodeC}
use Rattle.hume_model.specs.declared.core_tree.Core.{Core}
use Rattle.hume_model.specs.Declarations.{declaration_of}
use Rattle.box_costs.specs.CostRules.{node_bound, space_of, space_before, OfNode, SpacePasses, BreaksCosts}
use Rattle.trace_print.proofs.table_lemmas.Sums.{sum_step}

not_past : (a b : ℕ) → (b < a → ⊥) → a ≤ b
not_past a b never = elim (cases_lt b a) [ inl past ↦ absurd (never past) | inr within ↦ within ]

pub item_at : {A : Type 0} (items : List A) (n : ℕ) → n < length items → (item : A) × (slice_get items n ≡ Some item)
item_at [] n less = absurd (omega (arith, less))
item_at (item ∷ items) zero less = (item, refl)
item_at (item ∷ items) (suc n) less = item_at items n (omega (arith, less))

module _ (core : Core) (fine : IsLeast (BreaksCosts core) None) where
  abbrev of_node : (P : Core → ℕ → NodeC → Type 0) (n : ℕ) (node : NodeC) → slice_get core.nodes n ≡ Some node → P core n node → OfNode core P (declaration_of node)
  of_node P n node there holds = record { n = n; node = node; there = there; declared = refl; holds = holds }

  space_step : (n : ℕ) (node : NodeC) → slice_get core.nodes n ≡ Some node → space_before core (suc n) ≡ space_before core n + space_of (node_bound core node)
  space_step n node there = sum_step (λ node. space_of (node_bound core node)) core.nodes n node there

  -- the words of the first nodes together
  one_more : (n : ℕ) (node : NodeC) → slice_get core.nodes n ≡ Some node → space_before core n ≤ MAX_SPACE_WORDS → space_before core (suc n) ≤ MAX_SPACE_WORDS
  one_more n node there before = not_past (space_before core (suc n)) MAX_SPACE_WORDS
      (λ past. fine (record { rule = C78; declaration = declaration_of node })
      (inr (inr (inl (
        refl,
        of_node SpacePasses n node there (record {
          before = before;
          through = subst (λ words. MAX_SPACE_WORDS < words) (space_step n node there) past;
        }),
      )))))

  pub space_within : (n : ℕ) → n ≤ length core.nodes → space_before core n ≤ MAX_SPACE_WORDS
  space_within zero within = omega arith
  space_within (suc n) within = let found = item_at core.nodes n (omega (arith, within)) in one_more n found.0 found.1 (space_within n (omega (arith, within)))
