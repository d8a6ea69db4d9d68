use Rattle.std.proofs.Common.{◌≡◌, List}
use Rattle.box_heap.specs.Stacks.{with_words}
use Rattle.wire_cells.specs.Cells.{CellView}
use Rattle.wire_cells.specs.Homes.{AreAtHome, AreOthersKept}
use Rattle.match_rules.proofs.PlainRules.{first_less, words_before}
use Rattle.match_rules.proofs.plain.take_plain.Given as goal

abbrev pub invariant-loop-i : goal.invariant-loop-i
invariant-loop-i l = record {
  at : (cells : List CellView) → AreAtHome l.side l.fn.home cells → AreAtHome l.side l.home (first_less l.i cells);
  pushed : (cells : List CellView) → AreAtHome l.side l.fn.home cells → l.stack ≡ with_words l.fn.stack (words_before l.i cells);
  others : AreOthersKept l.side l.fn.home l.home;
}
