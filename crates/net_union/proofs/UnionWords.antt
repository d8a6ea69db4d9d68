-- The words of a union's wires are those of both programs' wires.
use Rattle.std.proofs.Common.{◌≡◌, ℕ, suc, ◌+◌, List, [], ◌∷◌, ◌++◌, map, sum, length, Some, slice_get, refl, ap, sym, ◌∙◌, arith}
use Rattle.std.proofs.lemmas.List.Sums.{sum_by-append}
use Rattle.hume_model.specs.declared.core_tree.NodeC.{NodeC}
use Rattle.hume_model.specs.declared.core_tree.WireC.{WireC}
use Rattle.hume_model.specs.declared.core_tree.Core.{Core}
use Rattle.hume_model.specs.Limits.{wire_words}
use Rattle.hume_model.specs.WellFormed.{HasSoundFrame}
use Rattle.hume_model.specs.WireEnds.{HasEnds}
use Rattle.union_laws.specs.Moving.{moved_node, moved_wire}
use Rattle.union_laws.specs.Union.{behind, united}
use Rattle.union_laws.proofs.MovedParts.{words_moved}
use Rattle.union_laws.proofs.UnionFormed.{left_trees, right_trees}
use Rattle.union_laws.proofs.Unions.{in_back, in_front}
use Rattle.union_laws.proofs.Unmoved.{node_same, unmoved, wire_same}

map_both : {X : Type 0} (f : X → ℕ) (xs ys : List X) → map f (xs ++ ys) ≡ map f xs ++ map f ys
map_both f [] ys = refl
map_both f (x ∷ xs) ys = λ i. f x ∷ map_both f xs ys i

sum_both : {X : Type 0} (f : X → ℕ) (xs ys : List X) → sum (map f (xs ++ ys)) ≡ sum (map f xs) + sum (map f ys)
sum_both f xs ys = ap sum (map_both f xs ys) ∙ sum_by-append (λ n. n) (map f xs) (map f ys)

-- lists of equal elements
moved_same : {X Y : Type 0} (f : X → ℕ) (g : Y → ℕ) (h : Y → X) (ys : List Y)
    → ((n : ℕ) (y : Y) → slice_get ys n ≡ Some y → f (h y) ≡ g y) → map f (map h ys) ≡ map g ys
moved_same f g h [] same = refl
moved_same f g h (y ∷ ys) same = λ i. same 0 y refl i ∷ moved_same f g h ys (λ n z at. same (suc n) z at) i

map_same : {X : Type 0} (f g : X → ℕ) (xs : List X) → ((n : ℕ) (x : X) → slice_get xs n ≡ Some x → f x ≡ g x) → map f xs ≡ map g xs
map_same f g [] same = refl
map_same f g (x ∷ xs) same = λ i. same 0 x refl i ∷ map_same f g xs (λ n z at. same (suc n) z at) i

module _ (a b : Core) (first : HasSoundFrame a) (second : HasSoundFrame b) where
  abbrev whole : Core
  whole = united a b

  front_nodes : (n : ℕ) (node : NodeC) → slice_get a.nodes n ≡ Some node → slice_get whole.nodes (0 + n) ≡ Some (moved_node unmoved node)
  front_nodes n node found = in_front (moved_node unmoved) a.nodes (map (moved_node (behind a)) b.nodes) n (0 + n) node (omega arith) (node_same node) found

  back_nodes : (n : ℕ) (node : NodeC) → slice_get b.nodes n ≡ Some node → slice_get whole.nodes (length a.nodes + n) ≡ Some (moved_node (behind a) node)
  back_nodes n node found = in_back (moved_node (behind a)) a.nodes b.nodes n node found

  front_wire : (wire : WireC) → HasEnds a wire → wire_words whole wire ≡ wire_words a wire
  front_wire wire ends =
      ap (wire_words whole) (sym (wire_same wire)) ∙ words_moved unmoved a whole (left_trees a b first second) first.holds front_nodes wire ends

  back_wire : (wire : WireC) → HasEnds b wire → wire_words whole (moved_wire (behind a) wire) ≡ wire_words b wire
  back_wire wire ends = words_moved (behind a) b whole (right_trees a b first second) second.holds back_nodes wire ends

  front_sum : sum (map (wire_words whole) a.wires) ≡ sum (map (wire_words a) a.wires)
  front_sum = ap sum (map_same (wire_words whole) (wire_words a) a.wires (λ w wire at. front_wire wire (first.wires w wire at)))

  back_sum : sum (map (wire_words whole) (map (moved_wire (behind a)) b.wires)) ≡ sum (map (wire_words b) b.wires)
  back_sum = ap sum (moved_same (wire_words whole) (wire_words b) (moved_wire (behind a)) b.wires (λ w wire at. back_wire wire (second.wires w wire at)))

  pub union_words : sum (map (wire_words whole) whole.wires) ≡ sum (map (wire_words a) a.wires) + sum (map (wire_words b) b.wires)
  union_words = sum_both (wire_words whole) a.wires (map (moved_wire (behind a)) b.wires)
      ∙ (λ i. front_sum i + back_sum i)
