-- Operators by how tight they are: one loop that does what the nested chains of the readers do, level by level.
use Rattle.std.specs.Prelude.{ℕ, zero, suc, ◌+◌, ◌==◌, nat_le, List, [], ◌∷◌, if◌then◌else◌, is_some, Option, Some, None, Ok}
use Rattle.hume_base.specs.declared.token.Kind.{Kind}
use Rattle.hume_ast.specs.declared.tree.BinOp.{BinOp}
use Rattle.hume_ast.specs.declared.tree.Exp.{Exp}
use Rattle.hume_ast.specs.declared.tree.Exp.TheOpen.{Exp-F}
use Rattle.hume_ast.specs.Fits.{op_level}
use Rattle.parse_readers.specs.inner.Readers.{Reader, ◌>>=◌}
use Rattle.parse_readers.specs.inner.Expressions.{exps, at_level, next_operator, one_operand, operands, operator_of}

-- behind a left part, the operators of one level; comparisons don't group, and no operator has level 7
abbrev pub level_rest : ℕ → ℕ → Exp-F Exp → Reader (Exp-F Exp)
level_rest level room left ks =
    if level == 4 then (if is_some (next_operator 4 ks) then one_operand 4 room (at_level 5 (exps room)) left ks else Ok (left, ks))
    else operands level room (at_level (level + 1) (exps room)) left ks

-- behind a left part, so many levels from the level on, the tightest first
abbrev pub climbed : ℕ → ℕ → ℕ → Exp-F Exp → Reader (Exp-F Exp)
climbed zero level room left ks = Ok (left, ks)
climbed (suc count) level room left ks = climbed count (level + 1) room left ks >>= λ x. level_rest level room x.0 x.1

-- the operator, if it is of the level or tighter, and looser than the limit
abbrev pub within : ℕ → ℕ → Option BinOp → Option BinOp
within level limit None = None
within level limit (Some operator) =
    if nat_le level (op_level operator) then (if nat_le (op_level operator + 1) limit then Some operator else None) else None

-- the next operator, if it is one of these
abbrev pub operator_within : ℕ → ℕ → List Kind → Option BinOp
operator_within level limit [] = None
operator_within level limit (k ∷ ks) = within level limit (operator_of k)

-- which operators may follow when the operator and its right part are read: those that are as tight or looser, and behind
-- a comparison those that are looser
abbrev pub limit_behind : BinOp → ℕ
limit_behind operator = if op_level operator == 4 then 4 else op_level operator + 1

-- the level of what stands between the operators of a level and tighter ones: index behind signs, app between `@`
abbrev pub operand_level : ℕ → ℕ
operand_level level = if nat_le level 7 then 7 else 9
