use Rattle.hume_base.specs.declared.symbol.Symbol.TheVariants.{Bar}
use Rattle.hume_ast.specs.Spelling.{spelled_rule}
use Rattle.hume_ast.proofs.SpellSteps.{next_turn}
use Rattle.hume_ast.proofs.spell_boxes.spell_rules.Goals as goal

pub loop-at-preserved : goal.loop-at-preserved
loop-at-preserved c =
    next_turn Bar spelled_rule _ _ _ _ c.args.rules.now c.loop-at.at c.index-rules-at.result c.loop-at.invariant
    c.sign_between.ensures c.spell_rule.ensures c.loop-at-test.true c.index-rules-at.is
