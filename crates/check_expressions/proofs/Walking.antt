-- One task after the other.
use Rattle.std.proofs.lemmas.Grind.{common_steps}

pub ruleset walk_steps = (common_steps)

pub ruleset perform_steps = (common_steps)
