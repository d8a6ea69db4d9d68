use Rattle.check_typing.proofs.DeclarationsAgree.{finds_function, box_to, box_from, finds_declaration, finds_none}
use Rattle.check_typing.proofs.laws.declaration_walk_is_typing.Goals as goal

pub returns-clause-function : goal.returns-clause-function
returns-clause-function c = finds_function

pub returns-clause-boxes : goal.returns-clause-boxes
returns-clause-boxes c s ins outs rs hs cs ds = (box_to s ins outs rs hs cs ds, box_from s ins outs rs hs cs ds)

pub returns-clause-typed : goal.returns-clause-typed
returns-clause-typed c = finds_declaration

pub returns-clause-untyped : goal.returns-clause-untyped
returns-clause-untyped c = finds_none
