use Rattle.hume_streams.proofs.RowWidths.{row_of_typed, width_of_typed}
use Rattle.hume_streams.proofs.laws.rows_of_values_have_the_size_of_their_type.Goals as goal

pub returns-clause-values : goal.returns-clause-values
returns-clause-values c = row_of_typed

pub returns-clause-width : goal.returns-clause-width
returns-clause-width c = width_of_typed
