-- How tests of words go on.
use Rattle.std.proofs.lemmas.Grind.{common_steps}
use Rattle.std.proofs.lemmas.List.{drop_min}
use Rattle.hume_model.specs.declared.core_tree.PatC.{the_lemmas}

pub ruleset test_steps = (common_steps, the_lemmas, drop_min)
