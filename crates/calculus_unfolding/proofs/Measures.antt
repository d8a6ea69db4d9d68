-- Measures of parts, by which calls on parts of a tree end.
use Rattle.std.proofs.Common.{ℕ, max, List, Option, Some, None}
use denote.Param.Weighed.{most}
use Rattle.hume_model.specs.declared.core_tree.Expr.{Expr, size-Expr}
use Rattle.hume_model.specs.declared.core_tree.PatC.{PatC}
use Rattle.hume_model.specs.declared.core_tree.Res.{Res, size-Res}

abbrev pub part_size : Option Expr → ℕ
part_size None = 0
part_size (Some e) = size-Expr e

abbrev pub ways_size : List (PatC × Res) → ℕ
ways_size arms = most (λ arm. max 0 (max (size-Res arm.1) 0)) arms
