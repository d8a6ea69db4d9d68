use Rattle.trace_print.proofs.LinesInTurn.{later_unwritten, both_end}
use Rattle.trace_print.proofs.table.table.write_table.Goals as goal

pub returns-in-Err-clause-ends : goal.returns-in-Err-clause-ends
returns-in-Err-clause-ends g c = later_unwritten _ _ _ _ _ c.in-Err.ensures.ends

pub returns-clause-ends : goal.returns-clause-ends
returns-clause-ends g c = both_end _ _ _ _ _ _ _ (record { same_names = c.in-Ok.ensures.same_names; made = c.in-Ok.ensures.ends })
    c.write_total.ensures.same_names c.write_total.ensures.ends
