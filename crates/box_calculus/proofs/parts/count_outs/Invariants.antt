use Rattle.std.proofs.Common.{◌≡◌, ◌+◌, drop, map}
use Rattle.std.specs.List.{sum}
use Rattle.calculus_laws.specs.Parts.{out_parts}
use Rattle.box_calculus.proofs.parts.count_outs.Given as goal

abbrev pub invariant-loop-out : goal.invariant-loop-out
invariant-loop-out l = l.count + sum (map out_parts (drop l.out-index l.outs)) ≡ sum (map out_parts l.outs)
