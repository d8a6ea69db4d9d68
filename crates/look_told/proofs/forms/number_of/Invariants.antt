use Rattle.std.proofs.Common.{◌<◌, ◌^◌}
use Rattle.look_told.proofs.forms.number_of.Given as goal

abbrev pub invariant-loop-byte : goal.invariant-loop-byte
invariant-loop-byte l = l.number < 10 ^ l.byte-index
