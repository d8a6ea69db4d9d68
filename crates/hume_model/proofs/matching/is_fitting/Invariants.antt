use Rattle.std.proofs.Common.{◌≡◌, drop}
use Rattle.hume_model.specs.Matching.{fits}
use Rattle.hume_model.proofs.matching.is_fitting.Given as goal

abbrev pub invariant-loop-i : goal.invariant-loop-i
invariant-loop-i l = fits (drop l.i l.pats) (drop l.i l.ins) ≡ fits l.pats l.ins
