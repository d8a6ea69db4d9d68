use Rattle.std.proofs.Common.{◌≡◌, length, take}
use Rattle.std.specs.List.{range_with_len}
use Rattle.match_rules.proofs.order.RuleOrder.make.Given as goal

abbrev pub invariant-loop-i : goal.invariant-loop-i
invariant-loop-i l = (length l.written ≡ 64) × (take l.i l.written ≡ range_with_len 0 l.i)
