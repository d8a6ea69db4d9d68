-- Statements from their parts.
use Rattle.std.specs.Prelude.{ℕ, Bool, List, [], ◌∷◌}
use Rattle.c_tree.specs.declared.tree.CType.{CType}
use Rattle.c_tree.specs.declared.tree.CExp.{CExp}
use Rattle.c_tree.specs.declared.tree.CVariable.{CVariable}
use Rattle.c_tree.specs.declared.tree.CStm.{CStm, out-CStm}
use Rattle.c_tree.specs.declared.tree.CStm.TheOpen.{CStm-F}
use Rattle.c_tree.specs.declared.tree.CStm.TheVariants as stm

abbrev pub variable : Bool → CType → List ℕ → CVariable
variable constant type name = record { constant = constant; ty = type; name = name }

-- a test with its statements, and no others
abbrev pub one_if : CExp → List CStm → CStm
one_if test body = stm.If test body [] []

-- a choice whose last statement is one, or isn't
abbrev pub tested_last : CExp → List CStm → CStm → CStm-F CStm → CStm
tested_last test body last (CStm-F.If next inner others otherwise) = stm.If test body ((next, inner) ∷ others) otherwise
tested_last test body last _ = stm.If test body [] (last ∷ [])

-- A choice between statements. Where the second ones are a choice alone, its tests follow this one's.
abbrev pub tested : CExp → List CStm → List CStm → CStm
tested test body [] = stm.If test body [] []
tested test body (one ∷ []) = tested_last test body one (out-CStm one)
tested test body (one ∷ two ∷ more) = stm.If test body [] (one ∷ two ∷ more)
