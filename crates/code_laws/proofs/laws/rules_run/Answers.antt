use Rattle.code_laws.proofs.WholeRules.{rule_runs}
use Rattle.code_laws.proofs.laws.rules_run.Goals as goal

pub returns : goal.returns
returns c = λ core sound b typed handles program represents number rule there ins are fit m ready. rule_runs core sound b typed handles program represents number rule there ins are fit m ready
