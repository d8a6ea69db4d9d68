-- Literals, as the code sees them.
use Rattle.std.specs.Prelude.{ℕ, Bool, false, List, ◌∷◌, Option, Some, None}
use Rattle.hume_model.specs.declared.core_tree.Op.{Op}
use Rattle.hume_model.specs.declared.core_tree.Op.TheVariants.{Div, Mod}
use Rattle.hume_model.specs.declared.core_tree.Expr.{Expr, out-Expr}
use Rattle.hume_model.specs.declared.core_tree.Expr.TheOpen.{Expr-F}
use Rattle.hume_model.specs.Raising.{may_be_zero}

-- the word of an expression that is a literal
abbrev pub literal_in : Expr-F Expr → Option ℕ
literal_in (Expr-F.Word word) = Some word
literal_in _ = None

abbrev pub literal_of : Expr → Option ℕ
literal_of e = literal_in (out-Expr e)

-- the operation divides by what may be 0
abbrev pub divisor_may_be_zero : Op → List Expr → Bool
divisor_may_be_zero Div (left ∷ right ∷ more) = may_be_zero (literal_of right)
divisor_may_be_zero Mod (left ∷ right ∷ more) = may_be_zero (literal_of right)
divisor_may_be_zero _ _ = false
