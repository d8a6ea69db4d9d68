use Rattle.std.proofs.Common.{◌≡◌, ℕ, map, drop, sum}
use Rattle.box_costs.specs.Building.{build_with}
use Rattle.space_costs.specs.inner.Standing.{AreBuildsOf, counted}
use Rattle.space_costs.proofs.builds.+builds.Given as goal

abbrev pub invariant-all_builds-loop-i : goal.invariant-all_builds-loop-i
invariant-all_builds-loop-i l = (named : ℕ → ℕ) → AreBuildsOf l.builds named → l.total ≡ counted (sum (map (build_with named) (drop l.i l.tys)))
