-- Steps of the loop over the boxes of a net.
use Rattle.std.proofs.Common.{◌≡◌, ℕ, zero, suc, ◌+◌, List, [], ◌∷◌, ◌++◌, ◌<◌, ◌≤◌, Option, drop, get_or, length, slice_get, refl, ap, sym, ◌∙◌, arith, append_assoc, append-nil}
use Rattle.std.proofs.lemmas.Grind.{common_steps}
use Rattle.std.proofs.lemmas.Option.{slice_get_past, slice_get_read}
use Rattle.hume_model.specs.declared.core_tree.BoxC.{BoxC}
use Rattle.hume_model.specs.declared.core_tree.NodeC.{NodeC}
use Rattle.hume_model.specs.declared.core_tree.NodeC.TheVariants.{Rules, From, To}
use Rattle.hume_model.specs.declared.core_tree.StreamC.{StreamC}
use Rattle.typed_core.specs.declared.trees.BoxTrees.{BoxTrees}
use Rattle.c_tree.specs.declared.tree.CItem.{CItem}
use Rattle.c_analysis.specs.Targets.{Target}
use Rattle.c_of.specs.File.{box_part, boxes_parts}
use Rattle.c_of.specs.inner.Nodes.{box_given, boxes_in, node_part}

none_behind : (place : ℕ) → drop {A = BoxTrees} place [] ≡ []
none_behind zero = refl
none_behind (suc place) = refl

module _ (t : Target) (number : ℕ) (nodes : List NodeC) where
  -- a box takes the next trees
  box_first : (b : BoxC) (trees : List BoxTrees) (place : ℕ) → boxes_parts t number (Rules b ∷ nodes) (drop place trees)
      ≡ box_given t number b (slice_get trees place) ++ boxes_parts t (number + 1) nodes (drop (place + 1) trees)
  box_first b [] zero = refl
  box_first b [] (suc place) = ap (boxes_parts t (number + 1) nodes) (sym (none_behind (suc place + 1)))
  box_first b (one ∷ trees) zero = refl
  box_first b (one ∷ trees) (suc place) =
      let later : suc (place + 1) ≡ suc place + 1 = omega arith in
      box_first b trees place
      ∙ ap (λ (at : ℕ). box_given t number b (slice_get trees place) ++ boxes_parts t (number + 1) nodes (drop at (one ∷ trees))) later

  -- a stream takes none
  input_first : (stream : StreamC) (trees : List BoxTrees) → boxes_parts t number (From stream ∷ nodes) trees ≡ boxes_parts t (number + 1) nodes trees
  input_first stream [] = refl
  input_first stream (one ∷ trees) = refl

  output_first : (stream : StreamC) (trees : List BoxTrees) → boxes_parts t number (To stream ∷ nodes) trees ≡ boxes_parts t (number + 1) nodes trees
  output_first stream [] = refl
  output_first stream (one ∷ trees) = refl

  same_place : (trees : List BoxTrees) (place : ℕ) → boxes_parts t (number + 1) nodes (drop place trees) ≡ boxes_parts t (number + 1) nodes (drop (place + 0) trees)
  same_place trees place =
      let same : place ≡ place + 0 = omega arith in ap (λ (at : ℕ). boxes_parts t (number + 1) nodes (drop at trees)) same

  -- the functions of the first node stand before those of the others
  pub node_first : (node : NodeC) (trees : List BoxTrees) (place : ℕ) → boxes_parts t number (node ∷ nodes) (drop place trees)
      ≡ node_part t number node (slice_get trees place) ++ boxes_parts t (number + 1) nodes (drop (place + boxes_in node) trees)
  node_first (Rules b) trees place = box_first b trees place
  node_first (From stream) trees place = input_first stream (drop place trees) ∙ same_place trees place
  node_first (To stream) trees place = output_first stream (drop place trees) ∙ same_place trees place

-- a box that has no trees, or has some
module _ (t : Target) (number : ℕ) (b : BoxC) (trees : List BoxTrees) (place : ℕ) (items : List CItem) where
  pub box_absent : length trees ≤ place → items ≡ items ++ box_given t number b (slice_get trees place)
  box_absent past = sym (ap (λ (it : Option BoxTrees). items ++ box_given t number b it) (slice_get_past trees place past) ∙ append-nil items)

  pub box_present : (one : BoxTrees) (declared new : List CItem) → place < length trees → one ≡ get_or trees place one
      → declared ≡ box_part t number b one → new ≡ items ++ declared → new ≡ items ++ box_given t number b (slice_get trees place)
  box_present one declared new within is declared_is new_is =
      new_is ∙ ap (λ (it : List CItem). items ++ it) (declared_is ∙ sym (ap (box_given t number b) (slice_get_read trees (length trees) place one refl within is)))

pub ruleset part_steps = (common_steps, append_assoc, append-nil, node_first)
