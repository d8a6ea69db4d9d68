use Rattle.c_meaning.proofs.Statements.{apart_keeps, others_keep, scope_keeps}
use Rattle.c_meaning.proofs.laws.assignments_change_only_their_place.Goals as goal

pub returns-clause-others : goal.returns-clause-others
returns-clause-others c = others_keep

pub returns-clause-apart : goal.returns-clause-apart
returns-clause-apart c = apart_keeps

pub returns-clause-rest : goal.returns-clause-rest
returns-clause-rest c = scope_keeps
