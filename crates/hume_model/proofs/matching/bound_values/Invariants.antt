use Rattle.std.proofs.Common.{◌≡◌, ◌++◌, drop}
use Rattle.hume_model.specs.Matching.{bound}
use Rattle.hume_model.proofs.matching.bound_values.Given as goal

abbrev pub invariant-loop-i : goal.invariant-loop-i
invariant-loop-i l = l.values ++ bound (drop l.i l.pats) (drop l.i l.ins) ≡ bound l.pats l.ins
