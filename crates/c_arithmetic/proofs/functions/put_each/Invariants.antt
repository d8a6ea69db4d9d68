use Rattle.std.proofs.Common.{◌≡◌, ◌++◌, drop, map}
use Rattle.c_arithmetic.specs.Helpers.{function_item}
use Rattle.c_arithmetic.proofs.functions.put_each.Given as goal

abbrev pub invariant-loop-helper : goal.invariant-loop-helper
invariant-loop-helper l =
    l.items ++ map (function_item l.names l.numbers) (drop l.helper-index l.helpers) ≡ l.initial.items ++ map (function_item l.names l.numbers) l.helpers
