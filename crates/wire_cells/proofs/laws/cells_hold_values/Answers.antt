use Rattle.wire_cells.proofs.Holding.{oldest_shown, less_held, more_held, held_long, held_at_time}
use Rattle.wire_cells.proofs.laws.cells_hold_values.Goals as goal

pub returns-clause-shown : goal.returns-clause-shown
returns-clause-shown c = oldest_shown

pub returns-clause-taken : goal.returns-clause-taken
returns-clause-taken c = less_held

pub returns-clause-asserted : goal.returns-clause-asserted
returns-clause-asserted c = more_held

pub returns-clause-whole : goal.returns-clause-whole
returns-clause-whole c = held_long

pub returns-clause-timed : goal.returns-clause-timed
returns-clause-timed c = held_at_time
