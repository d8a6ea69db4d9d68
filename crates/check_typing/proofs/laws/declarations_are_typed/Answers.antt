use Rattle.check_typing.proofs.DeclarationsTyped.{function_typed, box_typed}
use Rattle.check_typing.proofs.laws.declarations_are_typed.Goals as goal

pub returns-clause-function : goal.returns-clause-function
returns-clause-function c s core name tys es cs f function of = function_typed s core of name tys es cs f function

pub returns-clause-boxes : goal.returns-clause-boxes
returns-clause-boxes c s core ins outs rs hs cs ds b of = box_typed s core of ins outs rs hs cs ds b
