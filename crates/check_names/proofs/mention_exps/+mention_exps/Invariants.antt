use Rattle.std.proofs.Common.{◌≡◌, ◌+◌, ◌*◌, max, ◌++◌, map, drop}
use denote.Param.Weighed.{most}
use Rattle.hume_ast.specs.declared.tree.Exp.{size-Exp}
use Rattle.check_names.specs.Mentions.{mentions, all_in, alternatives_in}
use Rattle.check_names.specs.inner.Alternatives.{alternative_with}
use Rattle.check_names.proofs.MentionSteps.{alternatives_size}
use Rattle.check_names.proofs.mention_exps.+mention_exps.Given as goal

abbrev pub decreases-mention_exp : goal.decreases-mention_exp
decreases-mention_exp l = 4 * size-Exp l.exp.now

abbrev pub decreases-mention_part : goal.decreases-mention_part
decreases-mention_part l = 4 * size-Exp l.part.now + 1

abbrev pub decreases-mention_let : goal.decreases-mention_let
decreases-mention_let l = 4 * max (size-Exp l.value.now) (size-Exp l.body.now) + 2

abbrev pub decreases-mention_two : goal.decreases-mention_two
decreases-mention_two l = 4 * max (size-Exp l.left.now) (size-Exp l.right.now) + 2

abbrev pub decreases-mention_three : goal.decreases-mention_three
decreases-mention_three l = 4 * max (size-Exp l.first.now) (max (size-Exp l.second.now) (size-Exp l.third.now)) + 2

abbrev pub decreases-mention_raise : goal.decreases-mention_raise
decreases-mention_raise l = 4 * size-Exp l.value.now + 2

abbrev pub decreases-mention_cast : goal.decreases-mention_cast
decreases-mention_cast l = 4 * size-Exp l.inner.now + 2

abbrev pub decreases-mention_construction : goal.decreases-mention_construction
decreases-mention_construction l = 4 * most size-Exp l.parts.now + 2

abbrev pub decreases-mention_application : goal.decreases-mention_application
decreases-mention_application l = 4 * most size-Exp l.parts.now + 2

abbrev pub decreases-mention_exps : goal.decreases-mention_exps
decreases-mention_exps l = 4 * most size-Exp l.exps.now + 1

abbrev pub decreases-mention_case : goal.decreases-mention_case
decreases-mention_case l = 4 * max (size-Exp l.subject.now) (alternatives_size l.alternatives.now) + 3

abbrev pub decreases-mention_alternatives : goal.decreases-mention_alternatives
decreases-mention_alternatives l = 4 * alternatives_size l.alternatives.now + 2

abbrev pub decreases-mention_alternative : goal.decreases-mention_alternative
decreases-mention_alternative l = 4 * size-Exp l.exp.now + 1

abbrev pub invariant-mention_exps-loop-exp : goal.invariant-mention_exps-loop-exp
invariant-mention_exps-loop-exp l = record {
  scope : l.scope ≡ l.fn.scope;
  out : l.out ++ all_in (map mentions (drop l.exp-index l.exps)) l.fn.scope ≡ l.fn.out ++ all_in (map mentions l.exps) l.fn.scope;
}

abbrev pub invariant-mention_alternatives-loop-alternative : goal.invariant-mention_alternatives-loop-alternative
invariant-mention_alternatives-loop-alternative l = record {
  scope : l.scope ≡ l.fn.scope;
  out : l.out ++ alternatives_in (map alternative_with (drop l.alternative-index l.alternatives)) l.fn.scope ≡ l.fn.out ++ alternatives_in (map alternative_with l.alternatives) l.fn.scope;
}
