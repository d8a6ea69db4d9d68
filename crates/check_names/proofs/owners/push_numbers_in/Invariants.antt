use Rattle.std.proofs.Common.{◌≡◌, ◌++◌, map, drop}
use Rattle.check_names.specs.Leading.{numbers_of}
use Rattle.check_names.proofs.owners.push_numbers_in.Given as goal

abbrev pub invariant-loop-owner : goal.invariant-loop-owner
invariant-loop-owner l = l.row ++ numbers_of l.name (map (λ owner. (owner.0.now, owner.1)) (drop l.owner-index l.owners)) ≡ l.fn.row ++ numbers_of l.name (map (λ owner. (owner.0.now, owner.1)) l.owners)
