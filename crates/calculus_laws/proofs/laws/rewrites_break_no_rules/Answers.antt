use Rattle.calculus_laws.proofs.Runs.{handlers_kept, wires_kept}
use Rattle.calculus_laws.proofs.laws.rewrites_break_no_rules.Goals as goal

pub returns-clause-wires : goal.returns-clause-wires
returns-clause-wires c = wires_kept

pub returns-clause-handlers : goal.returns-clause-handlers
returns-clause-handlers c = handlers_kept
