use Rattle.hume_base.specs.declared.symbol.Symbol.TheVariants.{Comma, Bar}
use Rattle.hume_ast.specs.Spelling.{spelled_exp}
use Rattle.hume_ast.specs.inner.Parts.{spelled_alternative}
use Rattle.hume_ast.proofs.SpellSteps.{next_turn, next_turn_beside}
use Rattle.hume_ast.proofs.spell_expressions.+spell_expressions.Goals as goal

pub spell_exps-loop-at-preserved : goal.spell_exps-loop-at-preserved
spell_exps-loop-at-preserved t c =
    next_turn Comma spelled_exp _ _ _ _ c.args.exps.now c.loop-at.at c.index-exps-at.result c.loop-at.invariant
    c.sign_between.ensures c.spell_exp.ensures c.loop-at-test.true c.index-exps-at.is

pub spell_exps_beside-loop-at-preserved : goal.spell_exps_beside-loop-at-preserved
spell_exps_beside-loop-at-preserved t c =
    next_turn_beside spelled_exp _ _ _ c.args.exps.now c.loop-at.at c.index-exps-at.result c.loop-at.invariant
    c.spell_exp.ensures c.loop-at-test.true c.index-exps-at.is

pub spell_alternatives-loop-at-preserved : goal.spell_alternatives-loop-at-preserved
spell_alternatives-loop-at-preserved t c =
    next_turn Bar spelled_alternative _ _ _ _ c.args.alternatives.now c.loop-at.at c.index-alternatives-at.result c.loop-at.invariant
    c.sign_between.ensures c.spell_alternative.ensures c.loop-at-test.true c.index-alternatives-at.is
