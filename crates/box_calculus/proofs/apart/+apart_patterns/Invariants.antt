use Rattle.std.proofs.Common.{◌≡◌, drop, map}
use Rattle.calculus_laws.specs.Apart.{apart, some_apart}
use Rattle.box_calculus.proofs.apart.+apart_patterns.Given as goal

abbrev pub invariant-some_parts_apart-loop-i : goal.invariant-some_parts_apart-loop-i
invariant-some_parts_apart-loop-i l = some_apart (map apart (drop l.i l.parts)) (drop l.i l.others) ≡ some_apart (map apart l.parts) l.others
