use Rattle.calculus_laws.proofs.FunctionNames.{name_spelled, spelled_name}
use Rattle.calculus_laws.proofs.laws.function_names_are_those_of_sources.Goals as goal

pub returns-clause-spelled : goal.returns-clause-spelled
returns-clause-spelled c = name_spelled

pub returns-clause-each : goal.returns-clause-each
returns-clause-each c = spelled_name
