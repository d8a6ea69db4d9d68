-- Outputs that are written from the last one to the first.
use Rattle.std.specs.Prelude.{◌≡◌, ◌-◌, ℕ, List, ◌++◌, length, take, drop, Option, Some, slice_get, slice_set}
use Rattle.box_heap.specs.Heaps.{HeapView}
use Rattle.box_heap.specs.Outputs.{OutputView}
use Rattle.box_code.specs.Machine.{Machine}
use Rattle.box_machine.specs.declared.registers.Registers.{Registers}
use Rattle.box_machine.specs.Running.{HaveRoom, with_outputs}
use Rattle.box_machine.specs.inner.Stepping.{Fits, objects_in}

-- the output at a place has these words
abbrev pub put_out : List OutputView → ℕ → List ℕ → List OutputView
put_out outputs i words = slice_set outputs i (record { size = length words; words = Some words })

-- the outputs from a number on have these words, if they have any
abbrev pub put_from : ℕ → List OutputView → List (Option (List ℕ)) → List OutputView
put_from number outputs flat = take number outputs ++ with_outputs (drop number outputs) (drop number flat)

-- so many words below the top
abbrev pub on_top : ℕ → List ℕ → ℕ → List ℕ
on_top count words top = take (top - (top - count)) (drop (top - count) words)

-- there is an output at the place that has room for so many words
pub record HasSize (outputs : List OutputView) (i count : ℕ) : Type 0 where
  pub output : OutputView
  pub there : slice_get outputs i ≡ Some output
  pub size : count ≡ output.size

-- these are the outputs' words, and there is room for them
pub record OutsFit (flat : Option (List (Option (List ℕ)))) (outputs : List OutputView) (outs : List (Option (List ℕ))) : Type 0 where
  pub is : flat ≡ Some outs
  pub room : HaveRoom outputs outs

-- the machine ends so, and a row of so many words, a heap and the outputs have room for it
pub record Reaches (reached : Option (ℕ × Machine)) (row room : ℕ) (outputs : List OutputView) : Type 0 where
  pub end : ℕ × Machine
  pub is : reached ≡ Some end
  pub fits : Fits end.1 row room
  pub outputs_room : HaveRoom outputs end.1.outs

-- registers, words, heap and outputs hold the machine at its end, with so many instructions left
pub record HoldsEnd (end : ℕ × Machine) (left : ℕ) (r : Registers) (words : List ℕ) (heap : HeapView) (old new : List OutputView) : Type 0 where
  pub left_is : end.0 ≡ left
  pub stack : end.1.stack ≡ take r.top words
  pub peak : end.1.peak ≡ r.peak
  pub objects : end.1.objects ≡ objects_in heap
  pub raised : end.1.raised ≡ r.raised
  pub outputs : new ≡ with_outputs old end.1.outs
