-- Patterns, one level of them.
use Rattle.std.proofs.lemmas.Grind.{common_steps}
use Rattle.hume_base.specs.declared.types.Ty.{the_lemmas as ty_lemmas}
use Rattle.hume_ast.specs.declared.tree.Pat.{the_lemmas as pat_lemmas}
use Rattle.check_tasks.proofs.PatternLaws.{match_none, match_more, match_past, match_lacking, tuple_match, con_match}
use Rattle.check_expressions.proofs.Steps.{number_shape, within_shape}

pub ruleset pattern_steps = (common_steps, pat_lemmas)

pub ruleset constructor_steps = (common_steps, con_match)

pub ruleset tuple_steps = (common_steps, tuple_match)

pub ruleset part_steps = (common_steps)

pub ruleset parts_steps = (common_steps, match_none, match_more, match_past, match_lacking)

pub ruleset leaf_steps = (common_steps, ty_lemmas, number_shape, within_shape)
