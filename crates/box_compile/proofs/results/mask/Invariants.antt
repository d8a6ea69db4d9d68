use Rattle.std.proofs.Common.{◌≡◌, drop}
use Rattle.box_code.specs.Represents.{mask_of}
use Rattle.box_compile.proofs.results.mask.Given as goal

abbrev pub invariant-loop-i : goal.invariant-loop-i
invariant-loop-i l = l.mask ≡ mask_of (drop l.i l.outs)
