use Rattle.std.proofs.Common.{length}
use Rattle.hume_calls.proofs.words.reading.+differ.Given as goal

abbrev pub decreases-differ : goal.decreases-differ
decreases-differ l = length l.words.now
