use Rattle.hume_ast.specs.Spelling.{spelled_pat}
use Rattle.hume_ast.proofs.SpellSteps.{next_turn, next_turn_beside}
use Rattle.hume_ast.proofs.spell_patterns.+spell_patterns.Goals as goal

pub spell_patterns-loop-at-preserved : goal.spell_patterns-loop-at-preserved
spell_patterns-loop-at-preserved t c =
    next_turn c.args.symbol spelled_pat _ _ _ _ c.args.patterns.now c.loop-at.at c.index-patterns-at.result c.loop-at.invariant
    c.sign_between.ensures c.spell_pattern.ensures c.loop-at-test.true c.index-patterns-at.is

pub spell_patterns_beside-loop-at-preserved : goal.spell_patterns_beside-loop-at-preserved
spell_patterns_beside-loop-at-preserved t c =
    next_turn_beside spelled_pat _ _ _ c.args.patterns.now c.loop-at.at c.index-patterns-at.result c.loop-at.invariant
    c.spell_pattern.ensures c.loop-at-test.true c.index-patterns-at.is
