-- The arms of a statement, with the texts of what stands in them.
use Rattle.std.specs.Prelude.{List, map}
use Rattle.c_tree.specs.declared.tree.CExp.{CExp}
use Rattle.c_tree.specs.declared.tree.CStm.{CStm}
use Rattle.c_tree.specs.Words.{Behind}
use Rattle.c_tree.specs.Statements.{statement_text}

abbrev pub written_arm : CExp × List CStm → CExp × List Behind
written_arm arm = (arm.0, map statement_text arm.1)
