use Rattle.std.proofs.Common.{◌≡◌, ◌+◌, ◌*◌, max, drop, map}
use Rattle.std.specs.Prelude.{fold}
use denote.Param.Weighed.{most}
use Rattle.c_tree.specs.declared.tree.CExp.{size-CExp}
use Rattle.c_sizes.specs.Frames.{deeper, deepest_of, expression_calls}
use Rattle.c_sizes.proofs.expressions.+expression_calls.Given as goal

abbrev pub decreases-expression_calls : goal.decreases-expression_calls
decreases-expression_calls l = 4 * size-CExp l.exp.now

abbrev pub decreases-two_calls : goal.decreases-two_calls
decreases-two_calls l = 4 * max (size-CExp l.first.now) (size-CExp l.second.now) + 1

abbrev pub decreases-deepest_of : goal.decreases-deepest_of
decreases-deepest_of l = 4 * most size-CExp l.parts.now + 1

abbrev pub decreases-call_of : goal.decreases-call_of
decreases-call_of l = 4 * most size-CExp l.arguments.now + 2

abbrev pub invariant-deepest_of-loop-part : goal.invariant-deepest_of-loop-part
invariant-deepest_of-loop-part l =
    fold deeper l.calls (map (expression_calls l.functions) (drop l.part-index l.parts))
    ≡ deepest_of (map (expression_calls l.functions) l.parts)
