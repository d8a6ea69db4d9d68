use Rattle.hume_model.proofs.AllOutputs.{each_output}
use Rattle.hume_model.proofs.ResultTypes.{result_typed}
use Rattle.hume_model.proofs.laws.results_keep_types.Goals as goal

pub returns-clause-types : goal.returns-clause-types
returns-clause-types c = λ core sound tys vars res gives env are. result_typed core sound tys gives env are

pub returns-clause-each : goal.returns-clause-each
returns-clause-each c = each_output
