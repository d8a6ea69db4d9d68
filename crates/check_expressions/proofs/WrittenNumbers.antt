-- Types of numbers as they are written.
use Rattle.std.proofs.lemmas.Grind.{common_steps}
use Rattle.hume_ast.specs.declared.tree.TyExp.{the_lemmas as type_lemmas}
use Rattle.hume_base.specs.declared.types.Ty.{the_lemmas as ty_lemmas}

pub ruleset number_steps = (common_steps, type_lemmas, ty_lemmas)
