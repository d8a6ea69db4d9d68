use Rattle.std.proofs.Common.{◌≡◌, ◌+◌, ◌*◌, max, map, drop}
use denote.Param.Weighed.{most}
use Rattle.hume_ast.specs.declared.tree.Exp.{size-Exp}
use Rattle.check_names.specs.Twice.{exp_binds_twice, any_true, any_alternative}
use Rattle.check_names.specs.inner.Alternatives.{alternative_twice}
use Rattle.check_names.proofs.MentionSteps.{alternatives_size}
use Rattle.check_names.proofs.twice_exps.+twice_exps.Given as goal

abbrev pub decreases-exp_binds_twice : goal.decreases-exp_binds_twice
decreases-exp_binds_twice l = 4 * size-Exp l.exp.now

abbrev pub decreases-part_binds_twice : goal.decreases-part_binds_twice
decreases-part_binds_twice l = 4 * size-Exp l.part.now + 1

abbrev pub decreases-one_of_two : goal.decreases-one_of_two
decreases-one_of_two l = 4 * max (size-Exp l.left.now) (size-Exp l.right.now) + 2

abbrev pub decreases-one_of_three : goal.decreases-one_of_three
decreases-one_of_three l = 4 * max (size-Exp l.first.now) (max (size-Exp l.second.now) (size-Exp l.third.now)) + 2

abbrev pub decreases-one_binds_twice : goal.decreases-one_binds_twice
decreases-one_binds_twice l = 4 * most size-Exp l.exps.now + 1

abbrev pub decreases-case_binds_twice : goal.decreases-case_binds_twice
decreases-case_binds_twice l = 4 * max (size-Exp l.subject.now) (alternatives_size l.alternatives.now) + 3

abbrev pub decreases-alternatives_bind_twice : goal.decreases-alternatives_bind_twice
decreases-alternatives_bind_twice l = 4 * alternatives_size l.alternatives.now + 2

abbrev pub decreases-alternative_binds_twice : goal.decreases-alternative_binds_twice
decreases-alternative_binds_twice l = 4 * size-Exp l.exp.now + 1

abbrev pub invariant-one_binds_twice-loop-exp : goal.invariant-one_binds_twice-loop-exp
invariant-one_binds_twice-loop-exp l = any_true (map exp_binds_twice (drop l.exp-index l.exps)) ≡ any_true (map exp_binds_twice l.exps)

abbrev pub invariant-alternatives_bind_twice-loop-alternative : goal.invariant-alternatives_bind_twice-loop-alternative
invariant-alternatives_bind_twice-loop-alternative l = any_alternative (map alternative_twice (drop l.alternative-index l.alternatives)) ≡ any_alternative (map alternative_twice l.alternatives)
