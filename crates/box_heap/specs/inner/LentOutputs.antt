-- What one output is once the words that it lent are given back.
use Rattle.std.specs.Prelude.{ℕ, List, length, Some}
use Rattle.std.specs.List.{refill}
use Rattle.std.specs.Borrow.{Lends, MutBor, Fml, u64, Array}
use Rattle.box_heap.specs.Outputs.{OutputView}
use Rattle.box_heap.specs.contracts.out_buf.Output.{the_row}

-- its words are those that were lent, with these written over them
abbrev pub rewritten : List ℕ → List ℕ → OutputView
rewritten lent written = record { size = length lent; words = Some (refill (length lent) lent written) }

abbrev pub LendsWords : MutBor OutputView → MutBor (List ℕ) → Fml
LendsWords old lent = Lends the_row (Array u64 0) old lent (rewritten lent.now)
