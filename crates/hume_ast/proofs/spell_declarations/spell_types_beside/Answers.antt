use Rattle.hume_ast.specs.Spelling.{spelled_ty}
use Rattle.hume_ast.proofs.SpellSteps.{next_turn_beside}
use Rattle.hume_ast.proofs.spell_declarations.spell_types_beside.Goals as goal

pub loop-at-preserved : goal.loop-at-preserved
loop-at-preserved c =
    next_turn_beside spelled_ty _ _ _ c.args.types.now c.loop-at.at c.index-types-at.result c.loop-at.invariant
    c.spell_type.ensures c.loop-at-test.true c.index-types-at.is
