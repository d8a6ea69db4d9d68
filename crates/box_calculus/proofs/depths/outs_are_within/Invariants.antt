use Rattle.std.proofs.Common.{◌≡◌, drop, map, nat_le}
use Rattle.hume_base.specs.Sizes.{greatest}
use Rattle.calculus_laws.specs.Depth.{out_depth}
use Rattle.box_calculus.proofs.depths.outs_are_within.Given as goal

abbrev pub invariant-loop-out : goal.invariant-loop-out
invariant-loop-out l = nat_le (greatest (map out_depth (drop l.out-index l.outs))) l.depth ≡ nat_le (greatest (map out_depth l.outs)) l.depth
