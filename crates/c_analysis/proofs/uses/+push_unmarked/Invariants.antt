use Rattle.std.proofs.Common.{◌≡◌, ◌+◌, ◌*◌, ◌++◌, drop, map, replicate, sum, false}
use denote.Param.Weighed.{most}
use Rattle.hume_model.specs.declared.core_tree.PatC.{size-PatC}
use Rattle.c_analysis.specs.Needs.{variables}
use Rattle.c_analysis.proofs.uses.+push_unmarked.Given as goal

abbrev pub decreases-push_unmarked : goal.decreases-push_unmarked
decreases-push_unmarked l = 2 * size-PatC l.pattern.now

abbrev pub decreases-push_all_unmarked : goal.decreases-push_all_unmarked
decreases-push_all_unmarked l = 2 * most size-PatC l.patterns.now + 1

abbrev pub invariant-push_all_unmarked-loop-pattern : goal.invariant-push_all_unmarked-loop-pattern
invariant-push_all_unmarked-loop-pattern l =
    l.used.items ++ replicate (sum (map variables (drop l.pattern-index l.patterns))) false ≡ l.initial.used.items ++ replicate (sum (map variables l.patterns)) false
