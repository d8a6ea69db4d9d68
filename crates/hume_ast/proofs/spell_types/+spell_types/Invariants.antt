use Rattle.std.proofs.Common.{map, take}
use Rattle.hume_ast.specs.Spelling.{spelled_ty, separated}
use Rattle.hume_ast.specs.inner.Tokens.{Adds}
use Rattle.hume_ast.proofs.spell_types.+spell_types.Given as goal

abbrev pub invariant-spell_types-loop-at : goal.invariant-spell_types-loop-at
invariant-spell_types-loop-at l = Adds l.fn.out l.out (separated l.symbol (map spelled_ty (take l.at l.types)))
