-- Types of one node.
use Rattle.std.proofs.lemmas.Grind.{common_steps}
use Rattle.hume_base.specs.declared.types.Ty.{the_lemmas as ty_lemmas}

pub ruleset tree_steps = (common_steps, ty_lemmas)
