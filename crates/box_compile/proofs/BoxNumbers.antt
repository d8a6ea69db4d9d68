-- The program of a box has as its number how many boxes stand before it.
use Rattle.std.proofs.Common.{◌≡◌, ◌+◌, ℕ, zero, suc, List, [], ◌∷◌, length, take, Some, slice_get, refl, ap, ◌∙◌, arith}
use Rattle.std.specs.List.{filter_map}
use Rattle.hume_model.specs.declared.core_tree.BoxC.{BoxC}
use Rattle.hume_model.specs.declared.core_tree.StreamC.{StreamC}
use Rattle.hume_model.specs.declared.core_tree.NodeC.{NodeC}
use Rattle.hume_model.specs.declared.core_tree.NodeC.TheVariants.{Rules, From, To}
use Rattle.hume_model.specs.declared.core_tree.Core.{Core}
use Rattle.box_code.specs.declared.program.BoxProgram.{BoxProgram}
use Rattle.box_compile.specs.Programs.{AreProgramsOf, HasProgram, box_in, boxes_before}

box_at : (nodes : List NodeC) (n : ℕ) (b : BoxC) → slice_get nodes n ≡ Some (Rules b)
    → slice_get (filter_map box_in nodes) (length (filter_map box_in (take n nodes))) ≡ Some b
box_at [] n b there = cc
box_at (Rules c ∷ nodes) zero b there = let same : c ≡ b = cc in ap Some same
box_at (From stream ∷ nodes) zero b there = cc
box_at (To stream ∷ nodes) zero b there = cc
box_at (Rules c ∷ nodes) (suc n) b there = box_at nodes n b there
box_at (From stream ∷ nodes) (suc n) b there = box_at nodes n b there
box_at (To stream ∷ nodes) (suc n) b there = box_at nodes n b there

pub program_at : (core : Core) (programs : List BoxProgram) → AreProgramsOf core programs → (n : ℕ) (b : BoxC) → slice_get core.nodes n ≡ Some (Rules b)
    → HasProgram core programs (boxes_before core n) b
program_at core programs are n b there = are.each (boxes_before core n) b (box_at core.nodes n b there)

-- counted from the front

box_counted : (nodes : List NodeC) (n : ℕ) (b : BoxC) → slice_get nodes n ≡ Some (Rules b)
    → length (filter_map box_in (take (suc n) nodes)) ≡ length (filter_map box_in (take n nodes)) + 1
box_counted [] n b there = cc
box_counted (Rules c ∷ nodes) zero b there = refl
box_counted (From stream ∷ nodes) zero b there = cc
box_counted (To stream ∷ nodes) zero b there = cc
box_counted (Rules c ∷ nodes) (suc n) b there = let later = box_counted nodes n b there in omega (arith, later)
box_counted (From stream ∷ nodes) (suc n) b there = box_counted nodes n b there
box_counted (To stream ∷ nodes) (suc n) b there = box_counted nodes n b there

input_passed : (nodes : List NodeC) (n : ℕ) (s : StreamC) → slice_get nodes n ≡ Some (From s)
    → length (filter_map box_in (take (suc n) nodes)) ≡ length (filter_map box_in (take n nodes))
input_passed [] n s there = cc
input_passed (Rules c ∷ nodes) zero s there = cc
input_passed (From stream ∷ nodes) zero s there = refl
input_passed (To stream ∷ nodes) zero s there = cc
input_passed (Rules c ∷ nodes) (suc n) s there = ap suc (input_passed nodes n s there)
input_passed (From stream ∷ nodes) (suc n) s there = input_passed nodes n s there
input_passed (To stream ∷ nodes) (suc n) s there = input_passed nodes n s there

output_passed : (nodes : List NodeC) (n : ℕ) (s : StreamC) → slice_get nodes n ≡ Some (To s)
    → length (filter_map box_in (take (suc n) nodes)) ≡ length (filter_map box_in (take n nodes))
output_passed [] n s there = cc
output_passed (Rules c ∷ nodes) zero s there = cc
output_passed (From stream ∷ nodes) zero s there = cc
output_passed (To stream ∷ nodes) zero s there = refl
output_passed (Rules c ∷ nodes) (suc n) s there = ap suc (output_passed nodes n s there)
output_passed (From stream ∷ nodes) (suc n) s there = output_passed nodes n s there
output_passed (To stream ∷ nodes) (suc n) s there = output_passed nodes n s there

module _ (core : Core) (n : ℕ) where
  next : boxes_before core (n + 1) ≡ boxes_before core (suc n)
  next = let same : n + 1 ≡ suc n = omega arith in ap (boxes_before core) same

  pub after_box : (b : BoxC) → slice_get core.nodes n ≡ Some (Rules b) → boxes_before core (n + 1) ≡ boxes_before core n + 1
  after_box b there = next ∙ box_counted core.nodes n b there

  pub after_input : (s : StreamC) → slice_get core.nodes n ≡ Some (From s) → boxes_before core (n + 1) ≡ boxes_before core n
  after_input s there = next ∙ input_passed core.nodes n s there

  pub after_output : (s : StreamC) → slice_get core.nodes n ≡ Some (To s) → boxes_before core (n + 1) ≡ boxes_before core n
  after_output s there = next ∙ output_passed core.nodes n s there
