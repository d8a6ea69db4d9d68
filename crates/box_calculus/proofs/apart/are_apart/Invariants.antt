use Rattle.std.proofs.Common.{◌≡◌, drop}
use Rattle.calculus_laws.specs.Apart.{some_apart_at}
use Rattle.box_calculus.proofs.apart.are_apart.Given as goal

abbrev pub invariant-loop-i : goal.invariant-loop-i
invariant-loop-i l = some_apart_at (drop l.i l.pats) (drop l.i l.others) ≡ some_apart_at l.pats l.others
