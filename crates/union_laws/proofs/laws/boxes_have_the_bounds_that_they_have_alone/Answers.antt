use Rattle.union_laws.proofs.UnionBounds.{left_bounds, right_bounds}
use Rattle.union_laws.proofs.laws.boxes_have_the_bounds_that_they_have_alone.Goals as goal

pub returns-clause-left : goal.returns-clause-left
returns-clause-left c = left_bounds

pub returns-clause-right : goal.returns-clause-right
returns-clause-right c = right_bounds
