use Rattle.check_typing.proofs.WalkAgrees.{walk_agrees}
use Rattle.check_typing.proofs.ResultWalkAgrees.{goes, result_walk_agrees}
use Rattle.check_typing.proofs.DeclarationsAgree.{finds_equation, finds_rule, finds_handler}
use Rattle.check_typing.proofs.laws.walk_is_typing.Goals as goal

pub returns-clause-opens : goal.returns-clause-opens
returns-clause-opens c s e = (walk_agrees s e).is_open

pub returns-clause-by_itself : goal.returns-clause-by_itself
returns-clause-by_itself c s scope e t d = let x = walk_agrees s e in (x.has_own scope t d, x.own_has scope t d)

pub returns-clause-against : goal.returns-clause-against
returns-clause-against c s scope e t d = let x = walk_agrees s e in (x.checked_against scope t d, x.against_checked scope t d)

pub returns-clause-along : goal.returns-clause-along
returns-clause-along c = goes

pub returns-clause-result : goal.returns-clause-result
returns-clause-result c s scope e tys d = let x = result_walk_agrees s e in (x.result_to scope tys d, x.result_from scope tys d)

pub returns-clause-equation : goal.returns-clause-equation
returns-clause-equation c = finds_equation

pub returns-clause-rule : goal.returns-clause-rule
returns-clause-rule c = finds_rule

pub returns-clause-handler : goal.returns-clause-handler
returns-clause-handler c = finds_handler
