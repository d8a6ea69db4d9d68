-- What is written of an expression: statements, and an expression of C behind them.
use Rattle.std.specs.Prelude.{ℕ, ◌+◌, true, false, List, [], ◌∷◌, ◌++◌, codes, Some}
use Rattle.c_tree.specs.declared.tree.CType.{CType}
use Rattle.c_tree.specs.declared.tree.CExp.{CExp}
use Rattle.c_tree.specs.declared.tree.CExp.TheVariants as exp
use Rattle.c_tree.specs.declared.tree.CStm.{CStm}
use Rattle.c_tree.specs.declared.tree.CStm.TheVariants as stm
use Rattle.c_forms.specs.Expressions.{numbered}
use Rattle.c_forms.specs.Statements.{variable}
use Rattle.c_expressions.specs.declared.made.Made.{Made}
use Rattle.c_expressions.specs.declared.made.Code.{Code}
use Rattle.c_expressions.specs.declared.made.Destination.{Destination}
use Rattle.c_expressions.specs.declared.made.Destination.TheVariants as to

abbrev pub made : List CStm → ℕ → Made
made statements next = record { statements = statements; next = next }

abbrev pub code : List CStm → CExp → ℕ → Code
code statements value next = record { statements = statements; exp = value; next = next }

-- no statement
abbrev pub nothing : ℕ → Made
nothing next = made [] next

-- an expression with no statement before it
abbrev pub plain : CExp → ℕ → Code
plain value next = code [] value next

-- statements with others before them
abbrev pub behind : List CStm → Made → Made
behind before after = made (before ++ after.statements) after.next

abbrev pub behind_code : List CStm → Code → Code
behind_code before after = code (before ++ after.statements) after.exp after.next

-- what is made behind what was made before
abbrev pub followed : Made → Made → Made
followed before more = made (before.statements ++ more.statements) more.next

-- statements with one more behind them
abbrev pub ended : List CStm → CStm → ℕ → Made
ended statements last next = made (statements ++ last ∷ []) next

abbrev pub with_value : Made → CExp → Code
with_value before value = code before.statements value before.next

-- the statements alone, for what they may raise
abbrev pub without_value : Code → Made
without_value it = made it.statements it.next

-- the variable of a number
abbrev pub variable_name : ℕ → List ℕ
variable_name number = numbered (codes "v") number

-- a variable of the type that has no value yet
abbrev pub declared : CType → ℕ → Code
declared ty next = code (stm.Declare (variable false ty (variable_name next)) ∷ []) (exp.Name (variable_name next)) (next + 1)

-- a variable with the value
abbrev pub defined : CType → Code → Code
defined ty it = code (it.statements ++ stm.Define (variable true ty (variable_name it.next)) it.exp ∷ []) (exp.Name (variable_name it.next)) (it.next + 1)

-- a variable with the value of a divisor. It isn't `const`, as compilers warn of a constant divisor that is 0.
abbrev pub defined_divisor : CType → Code → Code
defined_divisor ty it = code (it.statements ++ stm.Define (variable false ty (variable_name it.next)) it.exp ∷ []) (exp.Name (variable_name it.next))
    (it.next + 1)

-- the value goes to the destination
abbrev pub given : Destination → Code → Made
given (to.Place object) it = ended it.statements (stm.Assign object it.exp) it.next
given to.Returned it = ended it.statements (stm.Return (Some it.exp)) it.next
given to.Nowhere it = without_value it
