use Rattle.std.proofs.Common.{◌≡◌, ℕ, map, drop}
use Rattle.hume_base.specs.Sizes.{greatest}
use Rattle.box_costs.specs.Building.{build_with, build_of_con}
use Rattle.space_costs.specs.inner.Standing.{AreBuildsOf, counted}
use Rattle.space_costs.proofs.builds.dearest_build.Given as goal

abbrev pub invariant-loop-i : goal.invariant-loop-i
invariant-loop-i l = (named : ℕ → ℕ) → AreBuildsOf l.builds named → l.most ≡ counted (greatest (map (build_of_con (build_with named)) (drop l.i l.cons)))
