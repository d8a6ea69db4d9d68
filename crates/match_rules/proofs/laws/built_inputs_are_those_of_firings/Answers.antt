use Rattle.std.proofs.Common.{map}
use Rattle.hume_net.specs.HalfSteps.{oldest}
use Rattle.match_rules.proofs.InputsBuilt.{values_takes, values_many}
use Rattle.match_rules.proofs.laws.built_inputs_are_those_of_firings.Goals as goal

pub returns-clause-words : goal.returns-clause-words
returns-clause-words c = λ pats ins. values_takes pats (map oldest ins)

pub returns-clause-count : goal.returns-clause-count
returns-clause-count c = λ pats ins fit. values_many pats (map oldest ins) fit
