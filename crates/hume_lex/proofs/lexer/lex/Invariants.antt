use Rattle.std.proofs.Common.{length}
use Rattle.hume_lex.proofs.Readings.{SoFar}
use Rattle.hume_lex.proofs.lexer.lex.Given as goal

abbrev pub invariant-pieces : goal.invariant-pieces
invariant-pieces l = SoFar l.source l.rest l.tokens.items

abbrev pub decreases-pieces : goal.decreases-pieces
decreases-pieces l = length l.rest
