-- The size of a part that may be there.
use Rattle.std.proofs.Common.{ℕ, Option, Some, None}
use Rattle.hume_model.specs.declared.core_tree.Expr.{Expr, size-Expr}

abbrev pub part_size : Option Expr → ℕ
part_size None = 0
part_size (Some e) = size-Expr e
