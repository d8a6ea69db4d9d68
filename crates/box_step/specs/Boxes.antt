-- When a compiled box is a box of a core at a part of a state, and what its execute step leaves.
use Rattle.std.specs.Prelude.{◌≡◌, ◌≤◌, ℕ, max, List, [], map, Option, Some, None, slice_get}
use Rattle.std.specs.Option.{option_map}
use Rattle.hume_base.specs.declared.limits.TheConstants.{MAX_HEAP_WORDS, MAX_STACK_WORDS}
use Rattle.hume_base.specs.Sizes.{size_of}
use Rattle.hume_model.specs.declared.core_tree.BoxC.{BoxC}
use Rattle.hume_model.specs.declared.core_tree.NodeC.TheVariants.{Rules}
use Rattle.hume_model.specs.declared.core_tree.Core.{Core}
use Rattle.hume_model.specs.BoxTyping.{port_types}
use Rattle.hume_model.specs.Handling.{HandlesAll}
use Rattle.hume_model.specs.WellFormed.{IsWellFormed}
use Rattle.hume_net.specs.declared.state.Part.{Part}
use Rattle.hume_net.specs.declared.state.HalfStep.{HalfStep}
use Rattle.hume_net.specs.HalfSteps.{execute}
use Rattle.hume_net.specs.Start.{written_order}
use Rattle.model_bare.specs.Bare.{bare_of, bare_box}
use Rattle.box_costs.specs.declared.cost.Cost.{Cost}
use Rattle.box_code.specs.declared.program.BoxProgram.{BoxProgram}
use Rattle.box_code.specs.RepresentsBox.{RepresentsBox}
use Rattle.box_machine.specs.declared.ran.Ran.{Ran}
use Rattle.code_laws.specs.Ending.{flat_outputs}
use Rattle.match_rules.specs.Inputs.{AreCellsOf}
use Rattle.match_rules.specs.Plain.{plain_box}
use Rattle.wire_cells.specs.Cells.{CellView}
use Rattle.box_step.specs.Views.{CompiledView}
use Rattle.box_step.specs.Steps.{execute_spent, execute_answer}

-- the box is one of a well-formed core, and handles all that its rules raise
pub record IsSoundBox (core : Core) (b : BoxC) : Type 0 where
  pub formed : IsWellFormed core
  pub node : ℕ
  pub there : slice_get core.nodes node ≡ Some (Rules b)
  pub handles : HandlesAll core b

-- What a call is handed of a sound box and its core: their bare forms, which have no functions and no results. So it can make
-- outputs by the code of the box alone.
pub record AreBareForms (core : Core) (b : BoxC) (bare : Core) (bare_b : BoxC) : Type 0 where
  pub sound : IsSoundBox core b
  pub core_is : bare ≡ bare_of core
  pub box_is : bare_b ≡ bare_box b

-- a box before its first step
abbrev pub first_part : BoxC → Part
first_part b = record { pending = None; order = written_order (Rules b); coming = []; taken = [] }

-- heap and stack have just the lengths that the program says, and the stack never had more words
pub record HasItsRoom (box : CompiledView) : Type 0 where
  pub heap_room : box.heap.room ≡ box.program.heap
  pub stack_room : box.stack.room ≡ box.program.stack
  pub within : box.stack.peak ≤ box.stack.room

-- The compiled box runs the code of the box, has its room, and is at the part: it has the part's order of rules, outputs of the
-- sizes of their types, and just the outputs pending that the part has, as flat words. It knows whether the box's rules are plain.
pub record IsBoxAt (core : Core) (b : BoxC) (part : Part) (box : CompiledView) : Type 0 where
  pub represents : RepresentsBox core b box.program
  pub room : HasItsRoom box
  pub order : box.order ≡ part.order
  pub sizes : box.sizes ≡ map (size_of core.types) (port_types b.outs)
  pub pending : box.pending ≡ option_map (flat_outputs core.types (port_types b.outs)) part.pending
  pub plain : box.plain ≡ plain_box b

-- the compiled box is at the part, and the cells hold what is on the wires of its inputs
pub record IsAt (core : Core) (b : BoxC) (at : HalfStep) (box : CompiledView) (cells : List CellView) : Type 0 where
  pub box_at : IsBoxAt core b at.part box
  pub inputs : AreCellsOf core (port_types b.ins) cells at.side

-- the peaks know the most words that there were, and so much work was done
pub record HasSpent (spent : Cost) (old new : CompiledView) : Type 0 where
  pub heap : new.heap.peak ≡ max old.heap.peak spent.heap
  pub stack : new.stack.peak ≡ max old.stack.peak spent.stack
  pub work : new.work ≡ spent.work

-- Box and cells are as the execute step leaves them. It took just what the step spends, and the answer tells whether a rule
-- fired, and which exception was handled.
pub record HasExecuted (core : Core) (b : BoxC) (before : HalfStep) (old new : CompiledView) (cells : List CellView) (answer : Option Ran) : Type 0 where
  pub at : IsAt core b (execute core (Rules b) before.part before.side) new cells
  pub spent : HasSpent (execute_spent core b before.part before.side) old new
  pub answered : answer ≡ execute_answer core b before.part before.side

-- the program takes no more words of heap and stack than a box may
pub record TakesLittle (program : BoxProgram) : Type 0 where
  pub heap : program.heap ≤ MAX_HEAP_WORDS
  pub stack : program.stack ≤ MAX_STACK_WORDS

-- it never had a word
pub record IsUnused (box : CompiledView) : Type 0 where
  pub heap : box.heap.peak ≡ 0
  pub stack : box.stack.peak ≡ 0
  pub work : box.work ≡ 0
