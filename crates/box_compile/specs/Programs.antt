-- Which programs are those of a core's boxes.
use Rattle.std.specs.Prelude.{◌≡◌, ℕ, List, length, take, Option, Some, None, filter_map, slice_get}
use Rattle.hume_model.specs.declared.core_tree.BoxC.{BoxC}
use Rattle.hume_model.specs.declared.core_tree.NodeC.{NodeC}
use Rattle.hume_model.specs.declared.core_tree.NodeC.TheVariants.{Rules, From, To}
use Rattle.hume_model.specs.declared.core_tree.Core.{Core}
use Rattle.box_code.specs.declared.program.BoxProgram.{BoxProgram}
use Rattle.box_code.specs.RepresentsBox.{RepresentsBox}

-- the box, if the node is one
abbrev pub box_in : NodeC → Option BoxC
box_in (Rules b) = Some b
box_in (From stream) = None
box_in (To stream) = None

-- the boxes of a core, in source order
abbrev pub boxes_of : Core → List BoxC
boxes_of core = filter_map box_in core.nodes

-- the program of the number represents the box
pub record HasProgram (core : Core) (programs : List BoxProgram) (number : ℕ) (b : BoxC) : Type 0 where
  pub program : BoxProgram
  pub at : slice_get programs number ≡ Some program
  pub represents : RepresentsBox core b program

-- there is one program for each of the boxes, in their order
pub record AreProgramsFor (core : Core) (boxes : List BoxC) (programs : List BoxProgram) : Type 0 where
  pub count : length programs ≡ length boxes
  pub each : (number : ℕ) (b : BoxC) → slice_get boxes number ≡ Some b → HasProgram core programs number b

abbrev pub AreProgramsOf : Core → List BoxProgram → Type 0
AreProgramsOf core programs = AreProgramsFor core (boxes_of core) programs

-- how many boxes stand before the node of the number: the number of its program, if it is a box
abbrev pub boxes_before : Core → ℕ → ℕ
boxes_before core n = length (filter_map box_in (take n core.nodes))
