use Rattle.std.proofs.Common.{◌≡◌, ◌++◌, drop}
use Rattle.check_names.specs.Leading.{owners_from}
use Rattle.check_names.proofs.owners.owners_of.Given as goal

abbrev pub invariant-loop-i : goal.invariant-loop-i
invariant-loop-i l = l.owners ++ owners_from l.kind l.i (drop l.i l.decls) ≡ owners_from l.kind 0 l.decls
