-- What a stack or a buffer of outputs is once the words that it lent are given back.
use Rattle.std.specs.Prelude.{ℕ, List, length, Some, slice_set}
use Rattle.std.specs.List.{refill}
use Rattle.std.specs.Borrow.{Lends, MutBor, Fml, u64, Array}
use Rattle.box_heap.specs.Stacks.{StackView}
use Rattle.box_heap.specs.Outputs.{OutputView}
use Rattle.box_heap.specs.contracts.stack.BoxStack as stack
use Rattle.box_heap.specs.contracts.out_buf.OutBuf as buffer

-- all words of its room are on it; they are those that were lent, with these written over them
abbrev pub with_room : StackView → List ℕ → List ℕ → StackView
with_room stack lent written = record { words = refill stack.room lent written; peak = stack.peak; room = stack.room }

-- the stack ends with what is last behind the reference
abbrev pub LendsRoom : MutBor StackView → MutBor (List ℕ) → Fml
LendsRoom old lent = Lends stack.the_row (Array u64 0) old lent (with_room old.now lent.now)

-- the words of one output are those that were lent, with these written over them
abbrev pub with_output : List OutputView → ℕ → List ℕ → List ℕ → List OutputView
with_output outputs i lent written = slice_set outputs i (record { size = length lent; words = Some (refill (length lent) lent written) })

abbrev pub LendsOutput : MutBor (List OutputView) → ℕ → MutBor (List ℕ) → Fml
LendsOutput old i lent = Lends buffer.the_row (Array u64 0) old lent (with_output old.now i lent.now)
