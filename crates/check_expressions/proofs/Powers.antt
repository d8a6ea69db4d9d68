-- Powers of two up to 64 bits.
use Rattle.std.proofs.lemmas.Grind.{common_steps}
use Rattle.hume_model.proofs.Powers.{shifted, at_most_64_bits, half_at_most_63_bits, two_halves}

pub ruleset power_steps = (common_steps, shifted, at_most_64_bits, half_at_most_63_bits, two_halves)
