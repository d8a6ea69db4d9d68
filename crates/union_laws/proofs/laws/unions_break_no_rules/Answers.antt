use Rattle.union_laws.proofs.UnionHandlers.{handlers_break}
use Rattle.union_laws.proofs.UnionRules.{union_breaks}
use Rattle.union_laws.proofs.laws.unions_break_no_rules.Goals as goal

pub returns-clause-wires : goal.returns-clause-wires
returns-clause-wires c = λ a b first second finding broken. union_breaks a b first.frame.wires second.frame.wires finding broken

pub returns-clause-handlers : goal.returns-clause-handlers
returns-clause-handlers c = λ a b first second finding broken. handlers_break a b first second finding broken
