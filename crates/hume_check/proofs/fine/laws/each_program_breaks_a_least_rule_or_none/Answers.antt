use Rattle.hume_check.proofs.fine_lemmas.LeastRules.{least_broken}
use Rattle.hume_check.proofs.fine.laws.each_program_breaks_a_least_rule_or_none.Goals as goal

pub returns : goal.returns
returns c = least_broken
