use Rattle.std.proofs.Common.{◌≡◌, length}
use Rattle.hume_text.specs.Read.{is_blank, behind}
use Rattle.hume_text.proofs.tokens.skip_blanks.Given as goal

abbrev pub invariant-loop-byte : goal.invariant-loop-byte
invariant-loop-byte l = behind is_blank l.rest ≡ behind is_blank l.line

abbrev pub decreases-loop-byte : goal.decreases-loop-byte
decreases-loop-byte l = length l.rest
