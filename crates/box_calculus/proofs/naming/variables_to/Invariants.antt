use Rattle.std.proofs.Common.{◌≡◌, map}
use Rattle.std.specs.List.{range_with_len}
use Rattle.hume_model.specs.declared.core_tree.Expr.TheVariants.{Var as VarExpr}
use Rattle.box_calculus.proofs.naming.variables_to.Given as goal

abbrev pub invariant-loop-number : goal.invariant-loop-number
invariant-loop-number l = l.parts ≡ map VarExpr (range_with_len 0 l.number)
