-- Types, patterns, expressions and results in which there are too many or too few of something.
use Rattle.std.specs.Prelude.{ℕ, ◌==◌, ◌&&◌, ◌||◌, nat_le, nat_lt, not, Bool, true, false, List, [], ◌∷◌, length, Option, Some, None}
use Rattle.std.specs.List.{list_any}
use Rattle.hume_base.specs.declared.limits.TheConstants.{MAX_WIDTH, MAX_LENGTH, MAX_PARTS}
use Rattle.hume_ast.specs.declared.tree.TyExp.{TyExp, fold-TyExp}
use Rattle.hume_ast.specs.declared.tree.TyExp.TheOpen.{TyExp-F}
use Rattle.hume_ast.specs.declared.tree.Pat.{Pat, fold-Pat}
use Rattle.hume_ast.specs.declared.tree.Pat.TheOpen.{Pat-F}
use Rattle.hume_ast.specs.declared.tree.Exp.{Exp, fold-Exp}
use Rattle.hume_ast.specs.declared.tree.Exp.TheOpen.{Exp-F}
use Rattle.check_names.specs.Twice.{any_true}
use Rattle.check_counts.specs.declared.counts.Counts.{Counts}
use Rattle.check_counts.specs.Counted.{is_other}

-- the number is outside of 1 to the greatest
abbrev pub is_outside : ℕ → ℕ → Bool
is_outside greatest number = not (nat_le 1 number && nat_le number greatest)

-- there are more of them than the greatest number
abbrev pub has_many : {A : Type 0} → ℕ → List A → Bool
has_many greatest items = nat_lt greatest (length items)

-- one level of a type, with what holds of its parts
abbrev pub type_step : TyExp-F Bool → Bool
type_step TyExp-F.Bool = false
type_step TyExp-F.Char = false
type_step (TyExp-F.Int bits) = is_outside MAX_WIDTH bits
type_step (TyExp-F.Nat bits) = is_outside MAX_WIDTH bits
type_step (TyExp-F.Vector count item) = is_outside MAX_LENGTH count || item
type_step (TyExp-F.Named name) = false
type_step (TyExp-F.Tuple parts) = has_many MAX_PARTS parts || any_true parts

-- a width, a length or a number of parts in the type is one that no type has
abbrev pub type_miscounts : TyExp → Bool
type_miscounts = fold-TyExp Bool type_step

-- one level of a pattern, with what holds of its parts
abbrev pub pattern_step : Counts → Pat-F Bool → Bool
pattern_step counts (Pat-F.Name name) = false
pattern_step counts Pat-F.Any = false
pattern_step counts (Pat-F.Num negative amount) = false
pattern_step counts (Pat-F.Letter byte) = false
pattern_step counts (Pat-F.Truth truth) = false
pattern_step counts (Pat-F.Con name parts) = is_other counts.constructors name (length parts) || any_true parts
pattern_step counts (Pat-F.Paren pat) = pat
pattern_step counts (Pat-F.Tuple parts) = has_many MAX_PARTS parts || any_true parts
pattern_step counts Pat-F.Star = false
pattern_step counts Pat-F.AnyStar = false

-- a constructor in the pattern has a wrong number of arguments, or a tuple too many parts
abbrev pub pattern_miscounts : Counts → Pat → Bool
pattern_miscounts counts = fold-Pat Bool (pattern_step counts)

-- so it is in the pattern of an alternative, or in its expression
abbrev pub arm_miscounts : Counts → Pat × Bool → Bool
arm_miscounts counts arm = pattern_miscounts counts arm.0 || arm.1

-- a small name that stands alone is a variable
abbrev pub call_miscounts : Counts → List ℕ → List Bool → Bool
call_miscounts counts name [] = false
call_miscounts counts name (part ∷ parts) = is_other counts.functions name (length (part ∷ parts)) || any_true (part ∷ parts)

-- an exception is raised without the value that it carries, or with one where it carries none, or so it is in that value
abbrev pub raise_miscounts : Counts → List ℕ → Option Bool → Bool
raise_miscounts counts name None = is_other counts.exceptions name 0
raise_miscounts counts name (Some part) = is_other counts.exceptions name 1 || part

-- one level of an expression, with what holds of its parts
abbrev pub expression_step : Counts → Exp-F Bool → Bool
expression_step counts (Exp-F.Let name part body) = part || body
expression_step counts (Exp-F.If test when_true when_false) = test || (when_true || when_false)
expression_step counts (Exp-F.Case part arms) = part || list_any (arm_miscounts counts) arms
expression_step counts (Exp-F.Raise name part) = raise_miscounts counts name part
expression_step counts (Exp-F.Binary sign left right) = left || right
expression_step counts (Exp-F.Neg part) = part
expression_step counts (Exp-F.Not part) = part
expression_step counts (Exp-F.App name parts) = call_miscounts counts name parts
expression_step counts (Exp-F.Con name parts) = is_other counts.constructors name (length parts) || any_true parts
expression_step counts (Exp-F.Update vector place item) = vector || (place || item)
expression_step counts (Exp-F.Num negative amount) = false
expression_step counts (Exp-F.Letter byte) = false
expression_step counts (Exp-F.Truth truth) = false
expression_step counts (Exp-F.Paren part) = part
expression_step counts (Exp-F.Tuple parts) = has_many MAX_PARTS parts || any_true parts
expression_step counts (Exp-F.Cast part type) = part || type_miscounts type
expression_step counts (Exp-F.Vect parts) = has_many MAX_LENGTH parts || any_true parts
expression_step counts Exp-F.Star = false

-- somewhere in the expression there are too many or too few of something
abbrev pub miscounts : Counts → Exp → Bool
miscounts counts = fold-Exp Bool (expression_step counts)

-- so it is in the expression of one of the alternatives
abbrev pub arm_leaves : List (Pat × Bool) → Bool
arm_leaves [] = false
arm_leaves (arm ∷ arms) = arm.1 || arm_leaves arms

-- one level of a result for so many outputs, with what holds of its parts as results
abbrev pub leaf_step : ℕ → Exp-F Bool → Bool
leaf_step count (Exp-F.Let name part body) = body
leaf_step count (Exp-F.If test when_true when_false) = when_true || when_false
leaf_step count (Exp-F.Case part arms) = arm_leaves arms
leaf_step count (Exp-F.Raise name part) = false
leaf_step count (Exp-F.Paren part) = part
leaf_step count (Exp-F.Tuple parts) = not (length parts == count)
leaf_step count _ = true

-- a leaf of the result, which is followed through parentheses, bodies of `let` and all branches, is neither a `raise` nor
-- a tuple of so many parts
abbrev pub has_other_leaf : ℕ → Exp → Bool
has_other_leaf count = fold-Exp Bool (leaf_step count)

-- the result of a box with so many outputs; with one output a leaf is the output itself
abbrev pub result_miscounts : Counts → ℕ → Exp → Bool
result_miscounts counts outputs result = miscounts counts result || (nat_le 2 outputs && has_other_leaf outputs result)
