use Rattle.hume_ast.specs.Spelling.{spelled_ty}
use Rattle.hume_ast.proofs.SpellSteps.{next_turn}
use Rattle.hume_ast.proofs.spell_types.+spell_types.Goals as goal

pub spell_types-loop-at-preserved : goal.spell_types-loop-at-preserved
spell_types-loop-at-preserved t c =
    next_turn c.args.symbol spelled_ty _ _ _ _ c.args.types.now c.loop-at.at c.index-types-at.result c.loop-at.invariant
    c.sign_between.ensures c.spell_type.ensures c.loop-at-test.true c.index-types-at.is
