use Rattle.std.proofs.Common.{ℕ}
use Rattle.hume_ast.specs.declared.tree.Decl.{Decl}
use Rattle.hume_ast.specs.Spelling.{spelled_decl}
use Rattle.hume_ast.proofs.SpellSteps.{next_turn_beside}
use Rattle.hume_ast.proofs.spell_program.spell_decls.Goals as goal

pub loop-at-preserved : goal.loop-at-preserved
loop-at-preserved c =
    next_turn_beside (λ (decl : ℕ × Decl). spelled_decl decl.1) _ _ _ c.args.decls.now c.loop-at.at c.index-decls-at.result c.loop-at.invariant
    c.spell_decl.ensures c.loop-at-test.true c.index-decls-at.is
