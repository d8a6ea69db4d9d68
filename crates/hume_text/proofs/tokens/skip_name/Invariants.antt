use Rattle.std.proofs.Common.{◌≡◌, length}
use Rattle.hume_text.specs.Read.{is_name_byte, behind}
use Rattle.hume_text.proofs.tokens.skip_name.Given as goal

abbrev pub invariant-loop-byte : goal.invariant-loop-byte
invariant-loop-byte l = behind is_name_byte l.rest ≡ behind is_name_byte l.bytes

abbrev pub decreases-loop-byte : goal.decreases-loop-byte
decreases-loop-byte l = length l.rest
