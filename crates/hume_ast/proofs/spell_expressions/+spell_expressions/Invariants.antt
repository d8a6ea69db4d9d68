use Rattle.std.proofs.Common.{◌+◌, ◌*◌, max, map, take}
use denote.Param.Weighed.{most}
use Rattle.hume_base.specs.declared.symbol.Symbol.TheVariants.{Comma, Bar}
use Rattle.hume_ast.specs.declared.tree.Exp.{size-Exp}
use Rattle.hume_ast.specs.Spelling.{spelled_exp, separated, beside}
use Rattle.hume_ast.specs.inner.Parts.{spelled_alternative}
use Rattle.hume_ast.proofs.SpellSteps.{alternatives_size}
use Rattle.hume_ast.specs.inner.Tokens.{Adds}
use Rattle.hume_ast.proofs.spell_expressions.+spell_expressions.Given as goal

abbrev pub decreases-spell_exp : goal.decreases-spell_exp
decreases-spell_exp l = 4 * size-Exp l.exp.now

abbrev pub decreases-spell_let : goal.decreases-spell_let
decreases-spell_let l = 4 * max (size-Exp l.value.now) (size-Exp l.body.now) + 1

abbrev pub decreases-spell_if : goal.decreases-spell_if
decreases-spell_if l = 4 * max (size-Exp l.test.now) (max (size-Exp l.first.now) (size-Exp l.second.now)) + 1

abbrev pub decreases-spell_case : goal.decreases-spell_case
decreases-spell_case l = 4 * max (size-Exp l.subject.now) (alternatives_size l.alternatives.now) + 3

abbrev pub decreases-spell_alternatives : goal.decreases-spell_alternatives
decreases-spell_alternatives l = 4 * alternatives_size l.alternatives.now + 2

abbrev pub decreases-spell_alternative : goal.decreases-spell_alternative
decreases-spell_alternative l = 4 * size-Exp l.exp.now + 1

abbrev pub decreases-spell_raise : goal.decreases-spell_raise
decreases-spell_raise l = 4 * goal.size-spell_raise l + 1

abbrev pub decreases-spell_binary : goal.decreases-spell_binary
decreases-spell_binary l = 4 * max (size-Exp l.left.now) (size-Exp l.right.now) + 1

abbrev pub decreases-spell_led : goal.decreases-spell_led
decreases-spell_led l = 4 * size-Exp l.part.now + 1

abbrev pub decreases-spell_update : goal.decreases-spell_update
decreases-spell_update l = 4 * max (size-Exp l.vector.now) (max (size-Exp l.at.now) (size-Exp l.item.now)) + 1

abbrev pub decreases-spell_in_parens : goal.decreases-spell_in_parens
decreases-spell_in_parens l = 4 * size-Exp l.inner.now + 1

abbrev pub decreases-spell_cast : goal.decreases-spell_cast
decreases-spell_cast l = 4 * size-Exp l.inner.now + 1

abbrev pub decreases-spell_listed : goal.decreases-spell_listed
decreases-spell_listed l = 4 * most size-Exp l.exps.now + 2

abbrev pub decreases-spell_exps : goal.decreases-spell_exps
decreases-spell_exps l = 4 * most size-Exp l.exps.now + 1

abbrev pub decreases-spell_exps_beside : goal.decreases-spell_exps_beside
decreases-spell_exps_beside l = 4 * most size-Exp l.exps.now + 1

abbrev pub invariant-spell_exps-loop-at : goal.invariant-spell_exps-loop-at
invariant-spell_exps-loop-at l = Adds l.fn.out l.out (separated Comma (map spelled_exp (take l.at l.exps)))

abbrev pub invariant-spell_exps_beside-loop-at : goal.invariant-spell_exps_beside-loop-at
invariant-spell_exps_beside-loop-at l = Adds l.fn.out l.out (beside (map spelled_exp (take l.at l.exps)))

abbrev pub invariant-spell_alternatives-loop-at : goal.invariant-spell_alternatives-loop-at
invariant-spell_alternatives-loop-at l = Adds l.fn.out l.out (separated Bar (map spelled_alternative (take l.at l.alternatives)))

abbrev pub decreases-spell_application : goal.decreases-spell_application
decreases-spell_application l = 4 * most size-Exp l.arguments.now + 2

abbrev pub decreases-spell_construction : goal.decreases-spell_construction
decreases-spell_construction l = 4 * most size-Exp l.arguments.now + 2
