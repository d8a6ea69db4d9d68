use Rattle.std.proofs.Common.{◌∙◌, ap, Ok}
use Rattle.hume_run.proofs.UnionRunning.{union_blocked, union_done, union_faulted}
use Rattle.hume_run.proofs.union.making.make_union.Goals as goal

pub returns-in-Ok-true : goal.returns-in-Ok-true
returns-in-Ok-true g c sources opened =
    union_blocked _ _ _ _ _ _ (c.in-Ok-true.is ∙ ap Ok c.in-Ok-true.field-0-test) (c.make_in_turn-made.ensures sources opened)

pub returns-in-Ok-false : goal.returns-in-Ok-false
returns-in-Ok-false g c sources opened =
    union_done _ _ _ _ _ _ (c.in-Ok-false.is ∙ ap Ok c.in-Ok-false.field-0-test) (c.make_in_turn-made.ensures sources opened)

pub returns-in-Err : goal.returns-in-Err
returns-in-Err g c sources opened = union_faulted _ _ _ _ _ _ (c.in-Err.ensures sources opened)
