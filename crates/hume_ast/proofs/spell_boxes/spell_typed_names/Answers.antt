use Rattle.hume_base.specs.declared.symbol.Symbol.TheVariants.{Comma}
use Rattle.hume_ast.specs.Spelling.{spelled_typed_name}
use Rattle.hume_ast.proofs.SpellSteps.{next_turn}
use Rattle.hume_ast.proofs.spell_boxes.spell_typed_names.Goals as goal

pub loop-at-preserved : goal.loop-at-preserved
loop-at-preserved c =
    next_turn Comma spelled_typed_name _ _ _ _ c.args.typed_names.now c.loop-at.at c.index-typed_names-at.result c.loop-at.invariant
    c.sign_between.ensures c.spell_typed_name.ensures c.loop-at-test.true c.index-typed_names-at.is
