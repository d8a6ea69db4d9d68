use Rattle.std.proofs.Common.{length}
use Rattle.hume_parse.proofs.Running.{Running}
use Rattle.hume_parse.proofs.program.program.Given as goal

abbrev pub invariant-items : goal.invariant-items
invariant-items l = Running l.tokens l.progress l.rest

abbrev pub decreases-items : goal.decreases-items
decreases-items l = length l.rest
