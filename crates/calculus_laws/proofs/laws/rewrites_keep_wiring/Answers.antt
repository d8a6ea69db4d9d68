use Rattle.calculus_laws.proofs.KeptWiring.{agreement_kept, wiring_kept}
use Rattle.calculus_laws.proofs.laws.rewrites_keep_wiring.Goals as goal

pub returns-clause-wired : goal.returns-clause-wired
returns-clause-wired c = wiring_kept

pub returns-clause-agree : goal.returns-clause-agree
returns-clause-agree c = agreement_kept
