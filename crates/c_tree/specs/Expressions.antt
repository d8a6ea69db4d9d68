-- The text of expressions. An operand is in parentheses exactly where its rank, which says how tightly its text holds together,
-- is below the one that its place asks for.
use Rattle.std.specs.Prelude.{ℕ, Bool, true, false, List, [], ◌∷◌, ◌++◌, codes, map, nat_le, if◌then◌else◌}
use Rattle.c_tree.specs.declared.rank.TheConstants.{ANY, COMPARISON, PREFIX, CAST, UNIT}
use Rattle.c_tree.specs.declared.tree.CType.{CType}
use Rattle.c_tree.specs.declared.tree.COp.{COp}
use Rattle.c_tree.specs.declared.tree.COp.TheVariants as op
use Rattle.c_tree.specs.declared.tree.CExp.{CExp, fold-CExp}
use Rattle.c_tree.specs.declared.tree.CExp.TheOpen.{CExp-F}
use Rattle.c_tree.specs.Words.{separated, type_text, truth_text, unsigned_text, signed_text}

-- an expression as it is written: its rank and its text
pub record Spelled : Type 0 where
  pub rank : ℕ
  pub text : List ℕ

abbrev pub ranked : ℕ → List ℕ → Spelled
ranked rank text = record { rank = rank; text = text }

-- the text of an operand where at least this rank is asked for
abbrev pub operand_text : ℕ → Spelled → List ℕ
operand_text asked part = if nat_le asked part.rank then part.text else codes "(" ++ (part.text ++ codes ")")

abbrev pub op_text : COp → List ℕ
op_text op.Multiply = codes " * "
op_text op.Divide = codes " / "
op_text op.Remainder = codes " % "
op_text op.Add = codes " + "
op_text op.Subtract = codes " - "
op_text op.ShiftLeft = codes " << "
op_text op.ShiftRight = codes " >> "
op_text op.BitAnd = codes " & "
op_text op.BitOr = codes " | "
op_text op.Equal = codes " == "
op_text op.NotEqual = codes " != "
op_text op.Less = codes " < "
op_text op.LessEqual = codes " <= "
op_text op.Greater = codes " > "
op_text op.GreaterEqual = codes " >= "

abbrev pub op_rank : COp → ℕ
op_rank op.Multiply = ANY
op_rank op.Divide = ANY
op_rank op.Remainder = ANY
op_rank op.Add = ANY
op_rank op.Subtract = ANY
op_rank op.ShiftLeft = ANY
op_rank op.ShiftRight = ANY
op_rank op.BitAnd = ANY
op_rank op.BitOr = ANY
op_rank op.Equal = COMPARISON
op_rank op.NotEqual = COMPARISON
op_rank op.Less = COMPARISON
op_rank op.LessEqual = COMPARISON
op_rank op.Greater = COMPARISON
op_rank op.GreaterEqual = COMPARISON

-- a minus sign makes a prefix of a constant
abbrev pub signed_rank : Bool → ℕ
signed_rank true = PREFIX
signed_rank false = UNIT

-- what the pointer of the name points to
abbrev pub pointed_text : List ℕ → List ℕ
pointed_text name = codes "(*" ++ (name ++ codes ")")

abbrev pub member_text : Spelled → List ℕ → List ℕ
member_text object name = operand_text UNIT object ++ (codes "." ++ name)

abbrev pub element_text : Spelled → Spelled → List ℕ
element_text array index = operand_text UNIT array ++ (codes "[" ++ (index.text ++ codes "]"))

abbrev pub call_text : List ℕ → List Spelled → List ℕ
call_text name arguments = name ++ (codes "(" ++ (separated (codes ", ") (map (operand_text ANY) arguments) ++ codes ")"))

abbrev pub cast_text : CType → Spelled → List ℕ
cast_text type part = codes "(" ++ (type_text type ++ (codes ")" ++ operand_text CAST part))

-- a sign and what stands behind it
abbrev pub prefix_text : List ℕ → Spelled → List ℕ
prefix_text sign part = sign ++ operand_text CAST part

abbrev pub binary_text : COp → Spelled → Spelled → List ℕ
binary_text operator left right = operand_text PREFIX left ++ (op_text operator ++ operand_text PREFIX right)

abbrev pub all_text : List Spelled → List ℕ
all_text [] = codes "true"
all_text (first ∷ others) = separated (codes " && ") (map (operand_text COMPARISON) (first ∷ others))

abbrev pub any_text : List Spelled → List ℕ
any_text [] = codes "false"
any_text (first ∷ others) = separated (codes " || ") (map (operand_text COMPARISON) (first ∷ others))

abbrev pub choice_text : Spelled → Spelled → Spelled → List ℕ
choice_text test first second =
    operand_text COMPARISON test ++ (codes " ? " ++ (operand_text COMPARISON first ++ (codes " : " ++ operand_text COMPARISON second)))

-- one level of an expression, with its parts as they are written
abbrev pub spell_expression : CExp-F Spelled → Spelled
spell_expression (CExp-F.Truth holds) = ranked UNIT (truth_text holds)
spell_expression (CExp-F.Unsigned width amount) = ranked UNIT (unsigned_text width amount)
spell_expression (CExp-F.Signed width negative amount) = ranked (signed_rank negative) (signed_text width negative amount)
spell_expression (CExp-F.Name name) = ranked UNIT name
spell_expression (CExp-F.Pointed name) = ranked UNIT (pointed_text name)
spell_expression (CExp-F.Member object name) = ranked UNIT (member_text object name)
spell_expression (CExp-F.Element array index) = ranked UNIT (element_text array index)
spell_expression (CExp-F.Call name arguments) = ranked UNIT (call_text name arguments)
spell_expression (CExp-F.Cast type part) = ranked CAST (cast_text type part)
spell_expression (CExp-F.Negate part) = ranked PREFIX (prefix_text (codes "-") part)
spell_expression (CExp-F.Not part) = ranked PREFIX (prefix_text (codes "!") part)
spell_expression (CExp-F.Address part) = ranked PREFIX (prefix_text (codes "&") part)
spell_expression (CExp-F.Binary operator left right) = ranked (op_rank operator) (binary_text operator left right)
spell_expression (CExp-F.All parts) = ranked ANY (all_text parts)
spell_expression (CExp-F.Any parts) = ranked ANY (any_text parts)
spell_expression (CExp-F.Choice test first second) = ranked ANY (choice_text test first second)

-- an expression as it is written
abbrev pub spelled : CExp → Spelled
spelled = fold-CExp Spelled spell_expression

abbrev pub expression_text : CExp → List ℕ
expression_text exp = (spelled exp).text
