use Rattle.std.proofs.Common.{take}
use Rattle.hume_ast.specs.Spelling.{spelled_decls}
use Rattle.hume_ast.specs.inner.Tokens.{Adds}
use Rattle.hume_ast.proofs.spell_program.spell_decls.Given as goal

abbrev pub invariant-loop-at : goal.invariant-loop-at
invariant-loop-at l = Adds l.fn.out l.out (spelled_decls (take l.at l.decls))
