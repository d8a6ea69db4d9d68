-- Outputs, one and many.
use Rattle.std.proofs.lemmas.Grind.{common_steps}
use Rattle.check_tasks.proofs.results_lemmas.ResultForms.{value_output}
use Rattle.check_tasks.proofs.results_lemmas.ResultLists.{outputs_none, outputs_more, outputs_past, outputs_lacking, result_arms_none, result_arms_more}
use Rattle.check_tasks.proofs.results_lemmas.ResultWholes.{one_output, more_outputs, no_result}

pub ruleset count_steps = (common_steps)

pub ruleset value_steps = (common_steps, value_output)

pub ruleset one_steps = (common_steps, one_output)

pub ruleset single_steps = (common_steps, no_result)

pub ruleset tuple_steps = (common_steps, more_outputs)

pub ruleset list_steps = (common_steps, outputs_none, outputs_more, outputs_past, outputs_lacking)

pub ruleset arms_steps = (common_steps, result_arms_none, result_arms_more)
