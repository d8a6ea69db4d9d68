use Rattle.std.proofs.Common.{map, take}
use Rattle.hume_base.specs.declared.symbol.Symbol.TheVariants.{Comma}
use Rattle.hume_ast.specs.Spelling.{spelled_typed_name, separated}
use Rattle.hume_ast.specs.inner.Tokens.{Adds}
use Rattle.hume_ast.proofs.spell_boxes.spell_typed_names.Given as goal

abbrev pub invariant-loop-at : goal.invariant-loop-at
invariant-loop-at l = Adds l.fn.out l.out (separated Comma (map spelled_typed_name (take l.at l.typed_names)))
