use Rattle.model_bare.proofs.SameCores.{bare_wired, whole_wired, bare_agree, whole_agree}
use Rattle.model_bare.proofs.laws.bare_forms_are_wired_alike.Goals as goal

pub returns-clause-wired : goal.returns-clause-wired
returns-clause-wired c = λ core. (bare_wired core, whole_wired core)

pub returns-clause-agree : goal.returns-clause-agree
returns-clause-agree c = λ core. (bare_agree core, whole_agree core)
