-- The halves of supersteps, one after the other.
use Rattle.std.specs.Prelude.{ℕ, ◌+◌}
use Rattle.run_log.specs.declared.half.Half.{Half}
use Rattle.run_log.specs.declared.half.Half.TheVariants.{Mid, End}

-- the half that follows one of these
abbrev pub half_behind : Half → Half
half_behind End = Mid
half_behind Mid = End

-- the superstep to which that half belongs
abbrev pub superstep_behind : ℕ → Half → ℕ
superstep_behind superstep End = superstep + 1
superstep_behind superstep Mid = superstep
