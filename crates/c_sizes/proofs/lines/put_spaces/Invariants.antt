use Rattle.std.proofs.Common.{◌≡◌, ◌++◌}
use Rattle.c_sizes.specs.Table.{spaces}
use Rattle.c_sizes.proofs.lines.put_spaces.Given as goal

abbrev pub invariant-loop : goal.invariant-loop
invariant-loop l = l.text.items ≡ l.initial.text.items ++ spaces l.counter
