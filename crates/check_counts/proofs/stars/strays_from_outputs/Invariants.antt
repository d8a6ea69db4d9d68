use Rattle.std.proofs.Common.{◌≡◌, map, drop}
use Rattle.check_counts.specs.Stars.{strays, any_output}
use Rattle.check_counts.proofs.stars.strays_from_outputs.Given as goal

abbrev pub invariant-loop-part : goal.invariant-loop-part
invariant-loop-part l = any_output (map strays (drop l.part-index l.parts)) ≡ any_output (map strays l.parts)
