use Rattle.std.proofs.Common.{◌≡◌, ◌≤◌, ◌-◌, ◌^◌, min}
use Rattle.hume_base.specs.Places.{line_at}
use Rattle.look_sources.specs.Spots.{column_at}
use Rattle.look_sources.proofs.spot.Spot.of.Given as goal

abbrev pub invariant-loop-byte : goal.invariant-loop-byte
invariant-loop-byte l = record {
  at : l.at ≡ l.byte-index;
  within : l.at ≤ l.place;
  line : l.line ≡ min (line_at l.text l.byte-index) (2 ^ 32 - 1);
  column : l.column ≡ min (column_at l.text l.byte-index) (2 ^ 32 - 1);
}
