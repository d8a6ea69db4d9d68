use Rattle.std.proofs.Common.{map, take}
use Rattle.hume_ast.specs.Spelling.{spelled_pat, separated, beside}
use Rattle.hume_ast.specs.inner.Tokens.{Adds}
use Rattle.hume_ast.proofs.spell_patterns.+spell_patterns.Given as goal

abbrev pub invariant-spell_patterns-loop-at : goal.invariant-spell_patterns-loop-at
invariant-spell_patterns-loop-at l = Adds l.fn.out l.out (separated l.symbol (map spelled_pat (take l.at l.patterns)))

abbrev pub invariant-spell_patterns_beside-loop-at : goal.invariant-spell_patterns_beside-loop-at
invariant-spell_patterns_beside-loop-at l = Adds l.fn.out l.out (beside (map spelled_pat (take l.at l.patterns)))
