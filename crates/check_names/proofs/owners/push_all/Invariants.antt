use Rattle.std.proofs.Common.{◌≡◌, ◌++◌, map, drop}
use Rattle.check_names.proofs.owners.push_all.Given as goal

abbrev pub invariant-loop-at : goal.invariant-loop-at
invariant-loop-at l = l.owners ++ map (λ name. (name, l.number)) (drop l.at l.names) ≡ l.fn.owners ++ map (λ name. (name, l.number)) l.names
