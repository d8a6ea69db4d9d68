use Rattle.hume_check.proofs.CoreTyped.{trees_of_core}
use Rattle.hume_check.proofs.core_trees.trees_are_those_of_the_core.Goals as goal

pub returns : goal.returns
returns c = λ text program core signatures order trees fine is are same h. trees_of_core text program core fine is signatures are order same trees h
