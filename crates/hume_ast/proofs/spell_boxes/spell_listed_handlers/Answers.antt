use Rattle.hume_base.specs.declared.symbol.Symbol.TheVariants.{Bar}
use Rattle.hume_ast.specs.Spelling.{spelled_handler}
use Rattle.hume_ast.proofs.SpellSteps.{next_turn}
use Rattle.hume_ast.proofs.spell_boxes.spell_listed_handlers.Goals as goal

pub loop-at-preserved : goal.loop-at-preserved
loop-at-preserved c =
    next_turn Bar spelled_handler _ _ _ _ c.args.handlers.now c.loop-at.at c.index-handlers-at.result c.loop-at.invariant
    c.sign_between.ensures c.spell_handler.ensures c.loop-at-test.true c.index-handlers-at.is
