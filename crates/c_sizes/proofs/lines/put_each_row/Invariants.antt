use Rattle.std.proofs.Common.{◌≡◌, ◌++◌, drop}
use Rattle.std.specs.List.{flat_map}
use Rattle.c_sizes.specs.Table.{row_line}
use Rattle.c_sizes.proofs.lines.put_each_row.Given as goal

abbrev pub invariant-loop-row : goal.invariant-loop-row
invariant-loop-row l = l.text.items ++ flat_map row_line (drop l.row-index l.rows) ≡ l.initial.text.items ++ flat_map row_line l.rows
