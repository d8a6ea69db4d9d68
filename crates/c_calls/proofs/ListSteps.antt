-- By what steps lists of statements are proved.
use Rattle.std.proofs.Common.{append_assoc}
use Rattle.std.proofs.lemmas.Grind.{common_steps}

pub ruleset list_steps = (common_steps, append_assoc)
