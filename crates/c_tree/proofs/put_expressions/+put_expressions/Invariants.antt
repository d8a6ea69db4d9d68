use Rattle.std.proofs.Common.{◌≡◌, ◌++◌, ◌+◌, ◌*◌, max, drop, map}
use Rattle.std.specs.List.{flat_map}
use denote.Param.Weighed.{most}
use Rattle.c_tree.specs.declared.tree.CExp.{size-CExp}
use Rattle.c_tree.specs.Expressions.{operand_text, spelled}
use Rattle.c_tree.proofs.put_expressions.+put_expressions.Given as goal

abbrev pub decreases-put_expression : goal.decreases-put_expression
decreases-put_expression l = 8 * size-CExp l.exp.now

abbrev pub decreases-put_in_parens : goal.decreases-put_in_parens
decreases-put_in_parens l = 8 * size-CExp l.exp.now + 1

abbrev pub decreases-put_operand : goal.decreases-put_operand
decreases-put_operand l = 8 * size-CExp l.exp.now + 2

abbrev pub decreases-put_others : goal.decreases-put_others
decreases-put_others l = 8 * most size-CExp l.others.now + 3

abbrev pub decreases-put_separated : goal.decreases-put_separated
decreases-put_separated l = 8 * most size-CExp l.parts.now + 4

abbrev pub decreases-put_member : goal.decreases-put_member
decreases-put_member l = 8 * size-CExp l.object.now + 3

abbrev pub decreases-put_element : goal.decreases-put_element
decreases-put_element l = 8 * max (size-CExp l.array.now) (size-CExp l.index.now) + 3

abbrev pub decreases-put_call : goal.decreases-put_call
decreases-put_call l = 8 * most size-CExp l.arguments.now + 5

abbrev pub decreases-put_cast : goal.decreases-put_cast
decreases-put_cast l = 8 * size-CExp l.part.now + 3

abbrev pub decreases-put_prefix : goal.decreases-put_prefix
decreases-put_prefix l = 8 * size-CExp l.part.now + 3

abbrev pub decreases-put_binary : goal.decreases-put_binary
decreases-put_binary l = 8 * max (size-CExp l.left.now) (size-CExp l.right.now) + 3

abbrev pub decreases-put_all : goal.decreases-put_all
decreases-put_all l = 8 * most size-CExp l.parts.now + 5

abbrev pub decreases-put_any : goal.decreases-put_any
decreases-put_any l = 8 * most size-CExp l.parts.now + 5

abbrev pub decreases-put_choice : goal.decreases-put_choice
decreases-put_choice l = 8 * max (size-CExp l.test.now) (max (size-CExp l.first.now) (size-CExp l.second.now)) + 3

abbrev pub invariant-put_others-loop-part : goal.invariant-put_others-loop-part
invariant-put_others-loop-part l = l.text.items ++ flat_map (λ part. l.between ++ part) (map (operand_text l.asked) (map spelled (drop l.part-index l.others)))
    ≡ l.initial.text.items ++ flat_map (λ part. l.between ++ part) (map (operand_text l.asked) (map spelled l.others))
