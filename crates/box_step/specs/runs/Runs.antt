-- When a rule of a box is ready to run as code, and what its run leaves.
use Rattle.std.specs.Prelude.{◌≡◌, ℕ, ◌≤◌, max, true, List, map, length, Option, Some, slice_get}
use Rattle.hume_base.specs.declared.types.Types.{Types}
use Rattle.hume_base.specs.declared.types.Value.{Value}
use Rattle.hume_base.specs.Sizes.{HaveTheirSizes, size_of}
use Rattle.hume_model.specs.declared.core_tree.RuleC.{RuleC}
use Rattle.hume_model.specs.declared.core_tree.BoxC.{BoxC}
use Rattle.hume_model.specs.declared.core_tree.Core.{Core}
use Rattle.hume_model.specs.declared.outcome.Outputs.{Outputs}
use Rattle.hume_model.specs.Matching.{fits, bound}
use Rattle.hume_model.specs.Reading.{HaveReadableSizes}
use Rattle.hume_model.specs.Results.{result_of}
use Rattle.hume_model.specs.ResultTyping.{are_outputs}
use Rattle.hume_model.specs.Firing.{handled}
use Rattle.hume_model.specs.Handling.{HandlesAll}
use Rattle.hume_model.specs.BoxTyping.{BoxIsTyped, port_types}
use Rattle.hume_model.specs.WellFormed.{HasSoundParts}
use Rattle.box_costs.specs.declared.cost.Cost.{Cost}
use Rattle.box_costs.specs.ResultSpending.{built_values, inputs_built, rule_spent}
use Rattle.box_heap.specs.Heaps.{HeapView, HasObjects, Object}
use Rattle.box_heap.specs.Stacks.{StackView}
use Rattle.box_heap.specs.Standing.{AllStand}
use Rattle.box_heap.specs.Outputs.{OutputView}
use Rattle.box_code.specs.declared.program.BoxProgram.{BoxProgram}
use Rattle.box_code.specs.RepresentsBox.{RepresentsBox}
use Rattle.box_machine.specs.declared.ran.Ran.{Ran}
use Rattle.box_machine.specs.Running.{answer_of, with_outputs}
use Rattle.code_laws.specs.Ending.{flat_outputs}
use Rattle.code_laws.specs.RuleEnding.{exception_of}

-- what the code of a box works on
pub record Memory : Type 0 where
  pub heap : HeapView
  pub stack : StackView
  pub outputs : List OutputView

abbrev pub memory : HeapView → StackView → List OutputView → Memory
memory heap stack outputs = record { heap = heap; stack = stack; outputs = outputs }

-- The core is sound, the box is typed and handles all that its rules raise, and the rule of the number fits the inputs, which
-- are of their types.
pub record CanFire (core : Core) (b : BoxC) (number : ℕ) (rule : RuleC) (ins : List (Option Value)) : Type 0 where
  pub sound : HasSoundParts core
  pub typed : BoxIsTyped core b
  pub handles : HandlesAll core b
  pub there : slice_get b.rules number ≡ Some rule
  pub inputs : are_outputs core.types (port_types b.ins) ins ≡ true
  pub fit : fits rule.pats ins ≡ true

-- The heap holds what builds the inputs that the rule builds and nothing else, and on the stack is a word for each of them.
-- All these words count in the most that there were.
pub record HoldsInputs (rule : RuleC) (ins : List (Option Value)) (heap : HeapView) (stack : StackView) : Type 0 where
  pub objects : List Object
  pub held : HasObjects heap objects
  pub built : length heap.words ≡ inputs_built rule.pats ins
  pub stand : AllStand objects (built_values rule.pats ins) stack.words
  pub heap_counted : length heap.words ≤ heap.peak
  pub stack_counted : length stack.words ≤ stack.peak

-- Heap and stack have the lengths that the program says, the stack never had more words, and each output has the size of its
-- type.
pub record HasRoomToRun (core : Core) (b : BoxC) (program : BoxProgram) (m : Memory) : Type 0 where
  pub heap_room : m.heap.room ≡ program.heap
  pub stack_room : m.stack.room ≡ program.stack
  pub within : m.stack.peak ≤ m.stack.room
  pub output_sizes : map (λ (output : OutputView). output.size) m.outputs ≡ map (size_of core.types) (port_types b.outs)

-- the types are the core's, and their sizes are those that are written and can be read
pub record AreItsTypes (core : Core) (types : Types) : Type 0 where
  pub same : types ≡ core.types
  pub sizes : HaveTheirSizes types
  pub readable : HaveReadableSizes types

-- The rule of the number can fire, the types are the core's, the program is the box's code and has its room, and the inputs
-- are built.
pub record IsReadyToRun (core : Core) (b : BoxC) (rule : RuleC) (ins : List (Option Value))
    (types : Types) (program : BoxProgram) (number : ℕ) (m : Memory) : Type 0 where
  pub fires : CanFire core b number rule ins
  pub types_are : AreItsTypes core types
  pub represents : RepresentsBox core b program
  pub room : HasRoomToRun core b program m
  pub holds : HoldsInputs rule ins m.heap m.stack

-- what the result of a rule comes to
abbrev pub result_with : Core → RuleC → List (Option Value) → Outputs
result_with core rule ins = result_of core (bound rule.pats ins) rule.result

-- what the rule spends, with the handler of what its result raises
abbrev pub cost_with : Core → BoxC → RuleC → List (Option Value) → Cost
cost_with core b rule ins = (rule_spent core b ins rule).cost

-- The outputs are those that the rule gives, or else its handler, as flat words, and the answer tells which exception that
-- handled, if one was raised. Just so many words are in the heap, and so many instructions were run, as the rule spends; heap
-- and stack know the most words that they had, then and before.
pub record HasRun (core : Core) (b : BoxC) (rule : RuleC) (ins : List (Option Value)) (old new : Memory) (work : ℕ) (answer : Ran) : Type 0 where
  pub gives : new.outputs ≡ with_outputs old.outputs (flat_outputs core.types (port_types b.outs) (handled core b.handlers (result_with core rule ins)))
  pub answers : answer ≡ answer_of (exception_of (result_with core rule ins))
  pub heap_words : length new.heap.words ≡ (cost_with core b rule ins).heap
  pub heap_peak : new.heap.peak ≡ max old.heap.peak (cost_with core b rule ins).heap
  pub heap_room : new.heap.room ≡ old.heap.room
  pub stack_peak : new.stack.peak ≡ max old.stack.peak (cost_with core b rule ins).stack
  pub stack_room : new.stack.room ≡ old.stack.room
  pub stack_within : new.stack.peak ≤ new.stack.room
  pub worked : work ≡ (cost_with core b rule ins).work
