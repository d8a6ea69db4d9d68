-- What a compiled box has.
use Rattle.std.specs.Prelude.{ℕ, Bool, List, Option, slice_get}
use Rattle.std.specs.Option.{option_and_then}
use Rattle.box_heap.specs.Heaps.{HeapView}
use Rattle.box_heap.specs.Stacks.{StackView}
use Rattle.box_code.specs.declared.program.BoxProgram.{BoxProgram}

-- Its program, the order of its rules, its heap and its stack; how many words each output has; the words of each output while
-- they are pending, with none for an output that is absent; how many instructions the last execute step ran; and whether its
-- rules take all inputs as they are.
pub record CompiledView : Type 0 where
  pub program : BoxProgram
  pub order : List ℕ
  pub heap : HeapView
  pub stack : StackView
  pub sizes : List ℕ
  pub pending : Option (List (Option (List ℕ)))
  pub work : ℕ
  pub plain : Bool

-- the words of the output of the number, counted from 0; none where it is absent, and none where nothing is pending
abbrev pub pending_words : CompiledView → ℕ → Option (List ℕ)
pending_words box i = option_and_then (λ outputs. option_and_then (λ words. words) (slice_get outputs i)) box.pending
