-- What is known of a source between the phases of its check.
use Rattle.std.specs.Prelude.{ℕ, List, None}
use Rattle.hume_base.specs.Least.{IsLeast}
use Rattle.hume_ast.specs.declared.tree.Program.{Program}
use Rattle.hume_model.specs.declared.core_tree.Core.{Core}
use Rattle.check_rules.specs.CheckRules.{BreaksCheck}
use Rattle.check_rules.specs.CoreOf.{IsCoreOf}
use Rattle.hume_front.specs.Accepted.{IsProgramOf}

-- the text stands for the program, which breaks no rule by itself and has the core
pub record IsChecked (text : List ℕ) (program : Program) (core : Core) : Type 0 where
  pub read : IsProgramOf text program
  pub fine : IsLeast (BreaksCheck program.decls) None
  pub stands : IsCoreOf text program core
