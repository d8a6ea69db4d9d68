use Rattle.hume_base.specs.declared.symbol.Symbol.TheVariants.{Bar}
use Rattle.hume_ast.specs.Spelling.{spelled_constructor}
use Rattle.hume_ast.proofs.SpellSteps.{next_turn}
use Rattle.hume_ast.proofs.spell_declarations.spell_constructors.Goals as goal

pub loop-at-preserved : goal.loop-at-preserved
loop-at-preserved c =
    next_turn Bar spelled_constructor _ _ _ _ c.args.constructors.now c.loop-at.at c.index-constructors-at.result c.loop-at.invariant
    c.sign_between.ensures c.spell_constructor.ensures c.loop-at-test.true c.index-constructors-at.is
