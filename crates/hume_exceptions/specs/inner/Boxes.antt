-- What is asked of boxes, as the code asks it of nodes and of sets.
use Rattle.std.specs.Prelude.{◌≡◌, ℕ, ◌<◌, true, false}
use Rattle.hume_model.specs.declared.core_tree.BoxC.{BoxC}
use Rattle.hume_model.specs.declared.core_tree.NodeC.{NodeC}
use Rattle.hume_model.specs.declared.core_tree.NodeC.TheVariants.{Rules, From, To}
use Rattle.hume_model.specs.declared.core_tree.Core.{Core}
use Rattle.hume_exceptions.specs.declared.exn_set.ExnSet.{ExnSet}
use Rattle.hume_exceptions.specs.Sets.{has}

-- the node is a box with the property
abbrev pub IsBoxWith : Core → (Core → BoxC → Type 0) → NodeC → Type 0
IsBoxWith core P (Rules b) = P core b
IsBoxWith core P (From stream) = ⊥
IsBoxWith core P (To stream) = ⊥

-- one of the first so many exceptions is in the one set, and not in the other
pub record IsBeyond (count : ℕ) (set allowed : ExnSet) : Type 0 where
  pub exn : ℕ
  pub known : exn < count
  pub there : has set exn ≡ true
  pub beyond : has allowed exn ≡ false
