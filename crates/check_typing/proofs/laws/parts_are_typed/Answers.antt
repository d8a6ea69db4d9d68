use Rattle.std.proofs.Common.{false, refl}
use Rattle.check_typing.proofs.PatternsTyped.{pattern_typed, positions_typed}
use Rattle.check_typing.proofs.DeclarationsTyped.{equations_typed, rule_typed, handler_typed}
use Rattle.check_typing.proofs.laws.parts_are_typed.Goals as goal

pub returns-clause-patterns : goal.returns-clause-patterns
returns-clause-patterns c s p t vars d h = pattern_typed s p t (vars, (d, false)) h refl

pub returns-clause-positions : goal.returns-clause-positions
returns-clause-positions c s ps ins vars cs h off = positions_typed s ps ins (vars, cs) h off

pub returns-clause-equations : goal.returns-clause-equations
returns-clause-equations c s core f function es cs of is h off = equations_typed s core of f function is es cs h off

pub returns-clause-rule : goal.returns-clause-rule
returns-clause-rule c s core b r d of h = rule_typed s core of b r (d, false) h refl

pub returns-clause-handler : goal.returns-clause-handler
returns-clause-handler c s core b h d of is = handler_typed s core of b h (d, false) is refl
