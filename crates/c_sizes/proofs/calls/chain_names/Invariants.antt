use Rattle.std.proofs.Common.{◌≡◌, ◌≤◌, ◌++◌, length, take}
use Rattle.std.specs.Prelude.{reverse}
use Rattle.c_sizes.specs.Calls.{chain}
use Rattle.c_sizes.proofs.calls.chain_names.Given as goal

abbrev pub invariant-loop-left : goal.invariant-loop-left
invariant-loop-left l = record {
  within : l.left ≤ length l.entries;
  rest : l.names ++ chain l.wanted (reverse (take l.left l.entries)) ≡ chain l.number (reverse l.entries);
}

abbrev pub decreases-loop-left : goal.decreases-loop-left
decreases-loop-left l = l.left
