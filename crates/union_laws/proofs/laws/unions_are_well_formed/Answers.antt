use Rattle.union_laws.proofs.UnionFormed.{union_formed}
use Rattle.union_laws.proofs.laws.unions_are_well_formed.Goals as goal

pub returns : goal.returns
returns c = union_formed
