use Rattle.std.proofs.Common.{IsTrue, take}
use Rattle.check_names.specs.inner.Indexed.{IsIndex}
use Rattle.check_names.proofs.owner_index.add_owners.Given as goal

abbrev pub invariant-loop-at : goal.invariant-loop-at
invariant-loop-at l = IsTrue l.distinct → IsIndex l.table (take l.at l.owners)
