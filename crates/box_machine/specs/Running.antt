-- When a rule's code runs to its end, and what it leaves.
use Rattle.std.specs.Prelude.{◌≡◌, ℕ, ◌≤◌, List, [], ◌∷◌, ◌++◌, length, Option, Some, None, slice_get}
use Rattle.std.specs.Option.{IsSome}
use Rattle.hume_base.specs.declared.types.Types.{Types}
use Rattle.box_heap.specs.Heaps.{HeapView, HasObjects, Object, with_objects}
use Rattle.box_heap.specs.Stacks.{StackView}
use Rattle.box_heap.specs.Outputs.{OutputView}
use Rattle.box_code.specs.declared.program.BoxProgram.{BoxProgram}
use Rattle.box_code.specs.Machine.{setting_of, Machine, EndsAfter, used}
use Rattle.box_machine.specs.declared.ran.Ran.{Ran}
use Rattle.box_machine.specs.declared.ran.Ran.TheVariants.{Outputs, Handled}

-- the machine at a place of the code: with the words of a stack and with objects, without outputs, and nothing is raised
abbrev pub machine_at : ℕ → StackView → List Object → Machine
machine_at place stack objects = record { at = place; stack = stack.words; peak = stack.peak; objects = objects; outs = []; raised = None }

-- from where the rule's code begins, with what heap and stack hold, the machine ends after so many instructions
pub record RunsTo (types : Types) (program : BoxProgram) (rule : ℕ) (heap : HeapView) (stack : StackView) (count : ℕ) (final : Machine) : Type 0 where
  pub place : ℕ
  pub begins : slice_get program.rules rule ≡ Some place
  pub objects : List Object
  pub held : HasObjects heap objects
  pub ends : EndsAfter (setting_of types program) (machine_at place stack objects) final count

-- there is an output for each of these, and each that has words has as many as there is room for
abbrev pub HaveRoom : List OutputView → List (Option (List ℕ)) → Type 0
HaveRoom [] [] = Unit {0}
HaveRoom [] (out ∷ outs) = ⊥
HaveRoom (output ∷ outputs) [] = ⊥
HaveRoom (output ∷ outputs) (None ∷ outs) = HaveRoom outputs outs
HaveRoom (output ∷ outputs) (Some words ∷ outs) = (length words ≡ output.size) × HaveRoom outputs outs

-- The rule's code ends within the program's work, and there is room for all that it puts on heap and stack, also for the
-- word with which a handler begins, and for its outputs.
pub record EndsInRoom (types : Types) (program : BoxProgram) (rule : ℕ) (heap : HeapView) (stack : StackView) (outputs : List OutputView) : Type 0 where
  pub count : ℕ
  pub final : Machine
  pub runs : RunsTo types program rule heap stack count final
  pub soon : count ≤ program.work
  pub heap_room : used final.objects ≤ heap.room
  pub stack_room : final.peak ≤ stack.room
  pub handler_room : IsSome final.raised → 1 ≤ stack.room
  pub outputs_room : HaveRoom outputs final.outs

-- the heap once other objects are put behind those that it had, one after another
pub record HasPut (old new : HeapView) (before after : List Object) : Type 0 where
  pub more : List Object
  pub added : after ≡ before ++ more
  pub put : new ≡ with_objects old more
  pub held : HasObjects new after

-- the outputs with these words
abbrev pub with_outputs : List OutputView → List (Option (List ℕ)) → List OutputView
with_outputs [] outs = []
with_outputs (output ∷ outputs) [] = []
with_outputs (output ∷ outputs) (words ∷ outs) = record output { words = words } ∷ with_outputs outputs outs

-- by the exception that was raised, if one was
abbrev pub answer_of : Option ℕ → Ran
answer_of None = Outputs
answer_of (Some exn) = Handled exn
