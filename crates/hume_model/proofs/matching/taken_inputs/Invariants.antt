use Rattle.std.proofs.Common.{◌≡◌, ◌++◌, drop}
use Rattle.hume_model.specs.Matching.{taken_at}
use Rattle.hume_model.proofs.matching.taken_inputs.Given as goal

abbrev pub invariant-loop-i : goal.invariant-loop-i
invariant-loop-i l = l.taken ++ taken_at (drop l.i l.pats) (drop l.i l.ins) ≡ taken_at l.pats l.ins
