use Rattle.std.proofs.Common.{refl}
use Rattle.code_laws.proofs.Results.{result_runs}
use Rattle.code_laws.proofs.laws.results_run.Goals as goal

pub returns : goal.returns
returns c = λ core sound s same entry stand vars res has env are below high to places m rep fits. result_runs core sound s entry stand same has env are places high m to below _ refl rep fits
