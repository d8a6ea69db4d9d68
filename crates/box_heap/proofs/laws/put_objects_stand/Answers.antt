use Rattle.box_heap.proofs.StandingStill.{tuple_stands, vector_stands, con_stands}
use Rattle.box_heap.proofs.laws.put_objects_stand.Goals as goal

pub returns-clause-tuple : goal.returns-clause-tuple
returns-clause-tuple c = tuple_stands

pub returns-clause-vector : goal.returns-clause-vector
returns-clause-vector c = vector_stands

pub returns-clause-con : goal.returns-clause-con
returns-clause-con c = λ heap objects values fields number has stand. con_stands heap objects values fields has stand number
