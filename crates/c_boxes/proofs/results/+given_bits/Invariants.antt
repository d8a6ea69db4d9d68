use Rattle.std.proofs.Common.{length}
use Rattle.c_boxes.proofs.results.+given_bits.Given as goal

abbrev pub decreases-given_bits : goal.decreases-given_bits
decreases-given_bits l = length l.outs.now
