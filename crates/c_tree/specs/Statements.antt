-- The text of statements, each line behind a margin. What stands in a block has four spaces more.
use Rattle.std.specs.Prelude.{ℕ, Bool, true, false, Option, None, Some, List, [], ◌∷◌, ◌++◌, codes, map}
use Rattle.std.specs.List.{flat_map}
use Rattle.c_tree.specs.declared.rank.TheConstants.{PREFIX}
use Rattle.c_tree.specs.declared.tree.CExp.{CExp}
use Rattle.c_tree.specs.declared.tree.CVariable.{CVariable}
use Rattle.c_tree.specs.declared.tree.CCount.{CCount}
use Rattle.c_tree.specs.declared.tree.CStm.{CStm, fold-CStm}
use Rattle.c_tree.specs.declared.tree.CStm.TheOpen.{CStm-F}
use Rattle.c_tree.specs.Words.{Behind, ended, opened, closed, newline, deeper, comment_line, type_text}
use Rattle.c_tree.specs.Expressions.{spelled, operand_text, call_text, expression_text}

-- the text of each of several behind the margin
abbrev pub each_behind : List ℕ → List Behind → List ℕ
each_behind margin parts = flat_map (λ part. part margin) parts

-- what stands in a block whose first line has the margin
abbrev pub block_text : List ℕ → List Behind → List ℕ
block_text margin parts = each_behind (deeper margin) parts

abbrev pub const_text : Bool → List ℕ
const_text true = codes "const "
const_text false = []

abbrev pub variable_text : CVariable → List ℕ
variable_text variable = const_text variable.constant ++ (type_text variable.ty ++ (codes " " ++ variable.name))

abbrev pub declare_text : CVariable → List ℕ → List ℕ
declare_text variable margin = margin ++ (variable_text variable ++ ended)

abbrev pub define_text : CVariable → CExp → List ℕ → List ℕ
define_text variable value margin = margin ++ (variable_text variable ++ (codes " = " ++ (expression_text value ++ ended)))

abbrev pub assign_text : CExp → CExp → List ℕ → List ℕ
assign_text object value margin = margin ++ (expression_text object ++ (codes " = " ++ (expression_text value ++ ended)))

-- `sign` is `++` or `--`
abbrev pub step_text : List ℕ → CExp → List ℕ → List ℕ
step_text sign object margin = margin ++ (expression_text object ++ (sign ++ ended))

abbrev pub call_line : List ℕ → List CExp → List ℕ → List ℕ
call_line name arguments margin = margin ++ (call_text name (map spelled arguments) ++ ended)

abbrev pub return_text : Option CExp → List ℕ → List ℕ
return_text None margin = margin ++ (codes "return" ++ ended)
return_text (Some value) margin = margin ++ (codes "return " ++ (expression_text value ++ ended))

-- a test, and the statements that it guards
abbrev pub arm_text : List ℕ → CExp → List Behind → List ℕ
arm_text margin test body = expression_text test ++ (opened ++ block_text margin body)

abbrev pub else_if_text : List ℕ → CExp × List Behind → List ℕ
else_if_text margin arm = margin ++ (codes "} else if (" ++ arm_text margin arm.0 arm.1)

abbrev pub else_text : List ℕ → List Behind → List ℕ
else_text margin [] = []
else_text margin (first ∷ others) = margin ++ (codes "} else {" ++ (newline ++ block_text margin (first ∷ others)))

abbrev pub if_text : CExp → List Behind → List (CExp × List Behind) → List Behind → List ℕ → List ℕ
if_text test body others otherwise margin = margin ++ (codes "if (" ++ (arm_text margin test body
    ++ (flat_map (else_if_text margin) others ++ (else_text margin otherwise ++ (margin ++ closed)))))

-- the statements of a case and the `break` behind them
abbrev pub case_end : List ℕ → List Behind → List ℕ
case_end margin body = codes ": {" ++ (newline ++ (block_text margin body ++ (deeper margin ++ (codes "break" ++ (ended ++ (margin ++ closed))))))

abbrev pub case_text : List ℕ → CExp × List Behind → List ℕ
case_text margin arm = margin ++ (codes "case " ++ (expression_text arm.0 ++ case_end margin arm.1))

abbrev pub default_text : List ℕ → List Behind → List ℕ
default_text margin body = margin ++ (codes "default" ++ case_end margin body)

abbrev pub switch_start : List ℕ → CExp → List ℕ
switch_start margin subject = margin ++ (codes "switch (" ++ (expression_text subject ++ opened))

abbrev pub switch_text : CExp → List (CExp × List Behind) → List Behind → List ℕ → List ℕ
switch_text subject cases otherwise margin =
    switch_start margin subject ++ (flat_map (case_text margin) cases ++ (default_text margin otherwise ++ (margin ++ closed)))

abbrev pub count_start : CCount → List ℕ
count_start count = type_text count.ty ++ (codes " " ++ (count.name ++ codes " = 0; "))

abbrev pub count_steps : CCount → List ℕ
count_steps count = count.name ++ (codes " < " ++ (operand_text PREFIX (spelled count.limit) ++ (codes "; " ++ (count.name ++ codes "++"))))

abbrev pub count_text : CCount → List ℕ
count_text count = count_start count ++ count_steps count

abbrev pub for_text : CCount → List Behind → List ℕ → List ℕ
for_text count body margin = margin ++ (codes "for (" ++ (count_text count ++ (opened ++ (block_text margin body ++ (margin ++ closed)))))

-- one level of a statement, with the texts of its parts
abbrev pub spell_statement : CStm-F Behind → List ℕ → List ℕ
spell_statement (CStm-F.Comment text) margin = comment_line margin text
spell_statement (CStm-F.Declare variable) margin = declare_text variable margin
spell_statement (CStm-F.Define variable value) margin = define_text variable value margin
spell_statement (CStm-F.Assign object value) margin = assign_text object value margin
spell_statement (CStm-F.Increment object) margin = step_text (codes "++") object margin
spell_statement (CStm-F.Decrement object) margin = step_text (codes "--") object margin
spell_statement (CStm-F.Call name arguments) margin = call_line name arguments margin
spell_statement (CStm-F.If test body others otherwise) margin = if_text test body others otherwise margin
spell_statement (CStm-F.Switch subject cases otherwise) margin = switch_text subject cases otherwise margin
spell_statement (CStm-F.For count body) margin = for_text count body margin
spell_statement CStm-F.Break margin = margin ++ (codes "break" ++ ended)
spell_statement (CStm-F.Return value) margin = return_text value margin

-- the text of a statement behind a margin
abbrev pub statement_text : CStm → List ℕ → List ℕ
statement_text = fold-CStm Behind spell_statement
