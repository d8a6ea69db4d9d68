use Rattle.std.proofs.Common.{map, take}
use Rattle.hume_base.specs.declared.symbol.Symbol.TheVariants.{Bar}
use Rattle.hume_ast.specs.Spelling.{spelled_handler, separated}
use Rattle.hume_ast.specs.inner.Tokens.{Adds}
use Rattle.hume_ast.proofs.spell_boxes.spell_listed_handlers.Given as goal

abbrev pub invariant-loop-at : goal.invariant-loop-at
invariant-loop-at l = Adds l.fn.out l.out (separated Bar (map spelled_handler (take l.at l.handlers)))
