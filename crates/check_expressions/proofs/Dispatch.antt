-- From forms to their tasks.
use Rattle.std.proofs.lemmas.Grind.{common_steps}
use Rattle.hume_ast.specs.declared.tree.Exp.{the_lemmas as exp_lemmas}
use Rattle.check_tasks.proofs.WholeLaws.{vector_against}
use Rattle.check_expressions.proofs.Opening.{case_level}

pub ruleset own_steps = (case_level, common_steps, exp_lemmas)

pub ruleset against_steps = (case_level, common_steps, exp_lemmas)

pub ruleset binary_steps = (common_steps)

pub ruleset same_steps = (common_steps)

pub ruleset vector_steps = (common_steps, vector_against)
