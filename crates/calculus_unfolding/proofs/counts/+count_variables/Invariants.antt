use Rattle.std.proofs.Common.{◌≡◌, ◌+◌, drop, map}
use Rattle.std.specs.List.{sum}
use Rattle.calculus_laws.specs.Unfolding.{variables_in}
use Rattle.calculus_unfolding.proofs.counts.+count_variables.Given as goal

abbrev pub invariant-count_in_parts-loop-part : goal.invariant-count_in_parts-loop-part
invariant-count_in_parts-loop-part l = l.count + sum (map variables_in (drop l.part-index l.parts)) ≡ sum (map variables_in l.parts)
