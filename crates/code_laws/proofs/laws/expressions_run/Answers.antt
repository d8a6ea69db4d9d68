use Rattle.std.proofs.Common.{refl}
use Rattle.code_laws.proofs.Calling.{expression_runs}
use Rattle.code_laws.proofs.laws.expressions_run.Goals as goal

pub returns : goal.returns
returns c = λ core sound s entry stand vars e ty has env are below high to places m rep fits. expression_runs core sound s entry stand has env are places high m to below _ refl rep fits
