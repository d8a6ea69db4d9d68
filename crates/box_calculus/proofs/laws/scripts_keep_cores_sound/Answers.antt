use Rattle.box_calculus.proofs.KeptByLines.{handlers_fine, still_agree, still_formed, still_handled, still_wired, wires_fine}
use Rattle.box_calculus.proofs.laws.scripts_keep_cores_sound.Goals as goal

pub returns-clause-formed : goal.returns-clause-formed
returns-clause-formed c = still_formed

pub returns-clause-wired : goal.returns-clause-wired
returns-clause-wired c = still_wired

pub returns-clause-agree : goal.returns-clause-agree
returns-clause-agree c = still_agree

pub returns-clause-wires : goal.returns-clause-wires
returns-clause-wires c = wires_fine

pub returns-clause-handlers : goal.returns-clause-handlers
returns-clause-handlers c = handlers_fine

pub returns-clause-handled : goal.returns-clause-handled
returns-clause-handled c = still_handled
