use Rattle.std.proofs.Common.{map, take}
use Rattle.hume_ast.specs.Spelling.{spelled_ty, beside}
use Rattle.hume_ast.specs.inner.Tokens.{Adds}
use Rattle.hume_ast.proofs.spell_declarations.spell_types_beside.Given as goal

abbrev pub invariant-loop-at : goal.invariant-loop-at
invariant-loop-at l = Adds l.fn.out l.out (beside (map spelled_ty (take l.at l.types)))
