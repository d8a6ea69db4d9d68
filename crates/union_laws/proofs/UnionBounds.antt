-- The boxes of a union have the bounds that they have in their programs.
use Rattle.std.proofs.Common.{◌≡◌, ℕ, List, Some, slice_get, ap, sym, ◌∙◌, subst}
use Rattle.std.specs.List.{All}
use Rattle.std.proofs.lemmas.List.Elements.{All-get_or}
use Rattle.std.proofs.lemmas.Option.{get_or_from_slice_get, slice_get_within}
use Rattle.hume_model.specs.declared.core_tree.BoxC.{BoxC}
use Rattle.hume_model.specs.declared.core_tree.NodeC.TheVariants.{Rules}
use Rattle.hume_model.specs.declared.core_tree.Core.{Core}
use Rattle.hume_model.specs.Limits.{IsSmallFunction, IsSmallNode}
use Rattle.hume_model.specs.WellFormed.{IsWellFormed}
use Rattle.box_costs.specs.Bounds.{box_bound}
use Rattle.union_laws.specs.Moving.{moved_box}
use Rattle.union_laws.specs.Union.{behind, united}
use Rattle.union_laws.proofs.KnownCalls.{box_known}
use Rattle.union_laws.proofs.MovedBounds.{box_bounds}
use Rattle.union_laws.proofs.UnionFormed.{left_trees, right_trees}
use Rattle.union_laws.proofs.Unmoved.{box_same, unmoved}

pub found_all : {X : Type 0} (P : X → Type 0) (xs : List X) → All P xs → (n : ℕ) (x : X) → slice_get xs n ≡ Some x → P x
found_all P xs all n x found = subst P (get_or_from_slice_get xs n x x found) (All-get_or P xs n x (slice_get_within xs n x found) all)

module _ (a b : Core) (first : IsWellFormed a) (second : IsWellFormed b) where
  pub left_bounds : (n : ℕ) (box : BoxC) → slice_get a.nodes n ≡ Some (Rules box) → box_bound (united a b) box ≡ box_bound a box
  left_bounds n box found =
      let stands = left_trees a b first.frame second.frame in
      ap (box_bound (united a b)) (sym (box_same box))
      ∙ box_bounds unmoved a (united a b) first.calls stands.funs stands.types first.frame.holds
      (found_all (IsSmallFunction a.types) a.funs first.frame.limits.each_function) box (box_known a box (first.boxes n box found))
      (found_all (IsSmallNode a.types) a.nodes first.frame.limits.each_node n (Rules box) found)

  pub right_bounds : (n : ℕ) (box : BoxC) → slice_get b.nodes n ≡ Some (Rules box) → box_bound (united a b) (moved_box (behind a) box) ≡ box_bound b box
  right_bounds n box found =
      let stands = right_trees a b first.frame second.frame in
      box_bounds (behind a) b (united a b) second.calls stands.funs stands.types second.frame.holds
      (found_all (IsSmallFunction b.types) b.funs second.frame.limits.each_function) box (box_known b box (second.boxes n box found))
      (found_all (IsSmallNode b.types) b.nodes second.frame.limits.each_node n (Rules box) found)
