use Rattle.std.proofs.Common.{map, take}
use Rattle.hume_base.specs.declared.symbol.Symbol.TheVariants.{Bar}
use Rattle.hume_ast.specs.Spelling.{spelled_constructor, separated}
use Rattle.hume_ast.specs.inner.Tokens.{Adds}
use Rattle.hume_ast.proofs.spell_declarations.spell_constructors.Given as goal

abbrev pub invariant-loop-at : goal.invariant-loop-at
invariant-loop-at l = Adds l.fn.out l.out (separated Bar (map spelled_constructor (take l.at l.constructors)))
