use Rattle.std.proofs.Common.{◌≡◌, ◌++◌, drop}
use Rattle.check_names.specs.Leading.{meant}
use Rattle.check_names.proofs.leading.meant_in.Given as goal

abbrev pub invariant-loop-at : goal.invariant-loop-at
invariant-loop-at l = l.row ++ meant l.kind l.owners.owners (drop l.at l.mentions) ≡ meant l.kind l.owners.owners l.mentions
