-- What texts are proved by.
use Rattle.std.proofs.Common.{append_assoc}
use Rattle.std.proofs.lemmas.Grind.{common_steps}

pub ruleset text_steps = (common_steps, append_assoc)
