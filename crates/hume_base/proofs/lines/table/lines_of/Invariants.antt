use Rattle.std.proofs.Common.{◌≡◌}
use Rattle.hume_base.specs.Places.{line_at}
use Rattle.hume_base.specs.lines.inner.Lines.{AreFirstLines}
use Rattle.hume_base.proofs.lines.table.lines_of.Given as goal

abbrev pub invariant-loop-byte : goal.invariant-loop-byte
invariant-loop-byte l = record {
  line : l.line ≡ line_at l.text l.byte-index;
  lines : AreFirstLines l.text l.byte-index l.lines.items;
}
