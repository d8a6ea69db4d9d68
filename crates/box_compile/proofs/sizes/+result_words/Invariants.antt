use Rattle.std.proofs.Common.{◌+◌, ◌*◌, max}
use Rattle.hume_model.specs.declared.core_tree.Res.{size-Res}
use Rattle.box_compile.proofs.Measures.{result_arms_size}
use Rattle.box_compile.proofs.sizes.+result_words.Given as goal

abbrev pub decreases-result_words : goal.decreases-result_words
decreases-result_words l = 4 * size-Res l.res.now

abbrev pub decreases-result_arms_words : goal.decreases-result_arms_words
decreases-result_arms_words l = 4 * result_arms_size l.arms.now + 1

abbrev pub decreases-choice_words : goal.decreases-choice_words
decreases-choice_words l = 4 * max (size-Res l.when_true.now) (size-Res l.when_false.now) + 1

abbrev pub decreases-result_case_words : goal.decreases-result_case_words
decreases-result_case_words l = 4 * result_arms_size l.arms.now + 2

abbrev pub decreases-binding_words : goal.decreases-binding_words
decreases-binding_words l = 4 * size-Res l.body.now + 1
