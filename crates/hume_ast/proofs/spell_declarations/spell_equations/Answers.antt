use Rattle.hume_ast.specs.Spelling.{spelled_equation}
use Rattle.hume_ast.proofs.SpellSteps.{next_turn_beside}
use Rattle.hume_ast.proofs.spell_declarations.spell_equations.Goals as goal

pub loop-at-preserved : goal.loop-at-preserved
loop-at-preserved c =
    next_turn_beside spelled_equation _ _ _ c.args.equations.now c.loop-at.at c.index-equations-at.result c.loop-at.invariant
    c.spell_equation.ensures c.loop-at-test.true c.index-equations-at.is
