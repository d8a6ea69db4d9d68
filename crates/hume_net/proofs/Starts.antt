-- Each state has a part for each node.
use Rattle.std.proofs.Common.{◌≡◌, ℕ, length}
use Rattle.std.proofs.lemmas.Grind.{common_steps}
use Rattle.std.proofs.lemmas.List.{length-map}
use Rattle.std.proofs.lemmas.List.FromFn.{length-map-range_with_len}
use Rattle.hume_net.specs.Sides.{numbered}

pub length-numbered : {X : Type 0} (bound : ℕ) (says : ℕ → X) → length (numbered bound says) ≡ bound
length-numbered bound says = length-map-range_with_len says 0 bound

pub ruleset start_steps = (common_steps, length-numbered, length-map)
