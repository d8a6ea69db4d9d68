-- Measures of parts, by which calls on parts of a statement end.
use Rattle.std.proofs.Common.{ℕ, max, List}
use denote.Param.Weighed.{most}
use Rattle.c_tree.specs.declared.tree.CExp.{CExp}
use Rattle.c_tree.specs.declared.tree.CStm.{CStm, size-CStm}

-- the most of the statements of each
abbrev pub arms_size : List (CExp × List CStm) → ℕ
arms_size arms = most (λ arm. max 0 (max (most size-CStm arm.1) 0)) arms
