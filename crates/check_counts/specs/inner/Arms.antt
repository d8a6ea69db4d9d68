-- The alternatives of a `case` with what holds of their bodies.
use Rattle.hume_ast.specs.declared.tree.Pat.{Pat}
use Rattle.hume_ast.specs.declared.tree.Exp.{Exp}

abbrev pub arm_with : {A : Type 0} → (Exp → A) → Pat × Exp → Pat × A
arm_with of arm = (arm.0, of arm.1)
