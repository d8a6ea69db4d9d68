-- Which names of objects stand in expressions and statements.
use Rattle.std.specs.Prelude.{ℕ, ◌||◌, Bool, false, List, [], ◌∷◌, Option, Some, None, map}
use Rattle.std.specs.Str.{bytes_eq}
use Rattle.c_tree.specs.declared.tree.CExp.{CExp, fold-CExp}
use Rattle.c_tree.specs.declared.tree.CExp.TheOpen.{CExp-F}
use Rattle.c_tree.specs.declared.tree.CStm.{CStm, fold-CStm}
use Rattle.c_tree.specs.declared.tree.CStm.TheOpen.{CStm-F}

abbrev pub one_holds : List Bool → Bool
one_holds [] = false
one_holds (first ∷ others) = first || one_holds others

-- one level of an expression, with whether the name stands in its parts
abbrev pub mention_step : List ℕ → CExp-F Bool → Bool
mention_step name (CExp-F.Name other) = bytes_eq other name
mention_step name (CExp-F.Pointed other) = bytes_eq other name
mention_step name (CExp-F.Member object member) = object
mention_step name (CExp-F.Element array index) = array || index
mention_step name (CExp-F.Call function arguments) = one_holds arguments
mention_step name (CExp-F.Cast type part) = part
mention_step name (CExp-F.Negate part) = part
mention_step name (CExp-F.Not part) = part
mention_step name (CExp-F.Address part) = part
mention_step name (CExp-F.Binary operator left right) = left || right
mention_step name (CExp-F.All parts) = one_holds parts
mention_step name (CExp-F.Any parts) = one_holds parts
mention_step name (CExp-F.Choice test first second) = test || first || second
mention_step name _ = false

-- whether the name stands in the expression as that of an object
abbrev pub exp_mentions : List ℕ → CExp → Bool
exp_mentions name = fold-CExp Bool (mention_step name)

-- whether the name stands in one of the expressions
abbrev pub some_mention : List ℕ → List CExp → Bool
some_mention name parts = one_holds (map (exp_mentions name) parts)

abbrev pub value_mentions : List ℕ → Option CExp → Bool
value_mentions name None = false
value_mentions name (Some value) = exp_mentions name value

-- a test or a constant, with its statements
abbrev pub arm_mentions : List ℕ → (CExp × List Bool) → Bool
arm_mentions name arm = exp_mentions name arm.0 || one_holds arm.1

abbrev pub arms_mention : List ℕ → List (CExp × List Bool) → Bool
arms_mention name arms = one_holds (map (arm_mentions name) arms)

-- one level of a statement, with whether the name stands in its parts
abbrev pub statement_step : List ℕ → CStm-F Bool → Bool
statement_step name (CStm-F.Comment text) = false
statement_step name (CStm-F.Declare variable) = false
statement_step name (CStm-F.Define variable value) = exp_mentions name value
statement_step name (CStm-F.Assign object value) = exp_mentions name object || exp_mentions name value
statement_step name (CStm-F.Increment object) = exp_mentions name object
statement_step name (CStm-F.Decrement object) = exp_mentions name object
statement_step name (CStm-F.Call function arguments) = some_mention name arguments
statement_step name (CStm-F.If test body others otherwise) =
    exp_mentions name test || one_holds body || arms_mention name others || one_holds otherwise
statement_step name (CStm-F.Switch subject cases otherwise) = exp_mentions name subject || arms_mention name cases || one_holds otherwise
statement_step name (CStm-F.For count body) = exp_mentions name count.limit || one_holds body
statement_step name CStm-F.Break = false
statement_step name (CStm-F.Return value) = value_mentions name value

-- whether the name stands in the statement as that of an object
abbrev pub statement_mentions : List ℕ → CStm → Bool
statement_mentions name = fold-CStm Bool (statement_step name)

-- whether the name stands in the statements as that of an object
abbrev pub mentions : List ℕ → List CStm → Bool
mentions name statements = one_holds (map (statement_mentions name) statements)
