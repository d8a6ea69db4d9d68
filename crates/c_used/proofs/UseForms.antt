-- Which names expressions and statements use, form by form.
use Rattle.std.proofs.Common.{◌≡◌, ℕ, Bool, List, [], ◌∷◌, ◌++◌, Option, map, refl, ap, sym, ◌∙◌, append_assoc}
use Rattle.std.specs.List.{flat_map}
use Rattle.std.proofs.lemmas.Grind.{common_steps}
use Rattle.c_tree.specs.declared.tree.Width.{Width}
use Rattle.c_tree.specs.declared.tree.CType.{CType}
use Rattle.c_tree.specs.declared.tree.COp.{COp}
use Rattle.c_tree.specs.declared.tree.CExp.{CExp, roll-CExp, map-CExp, fold-roll-CExp}
use Rattle.c_tree.specs.declared.tree.CExp.TheOpen.{CExp-F}
use Rattle.c_tree.specs.declared.tree.CExp.TheVariants as exp
use Rattle.c_tree.specs.declared.tree.CVariable.{CVariable}
use Rattle.c_tree.specs.declared.tree.CCount.{CCount}
use Rattle.c_tree.specs.declared.tree.CStm.{CStm, roll-CStm, map-CStm, fold-roll-CStm}
use Rattle.c_tree.specs.declared.tree.CStm.TheOpen.{CStm-F}
use Rattle.c_tree.specs.declared.tree.CStm.TheVariants as stm
use Rattle.c_used.specs.Uses.{Name, arm_uses, exp_step, exp_uses, exps_use, statement_step, statement_uses, statements_use, type_uses, value_uses}
use Rattle.c_used.specs.inner.Names.{tree_arm_uses}
use Rattle.c_used.proofs.Sets.{more_names}

form : (e : CExp) (x : CExp-F CExp) → roll-CExp x ≡ e → exp_uses e ≡ exp_step (map-CExp CExp (List Name) exp_uses x)
form e x is = ap exp_uses (sym is) ∙ fold-roll-CExp (List Name) exp_step x

statement_form : (s : CStm) (x : CStm-F CStm) → roll-CStm x ≡ s → statement_uses s ≡ statement_step (map-CStm CStm (List Name) statement_uses x)
statement_form s x is = ap statement_uses (sym is) ∙ fold-roll-CStm (List Name) statement_step x

arms_same : (arms : List (CExp × List CStm)) → flat_map tree_arm_uses arms
    ≡ flat_map arm_uses (map (λ (arm : CExp × List CStm). (arm.0, map statement_uses arm.1)) arms)
arms_same [] = refl
arms_same (arm ∷ arms) = ap (λ names. tree_arm_uses arm ++ names) (arms_same arms)

pub uses_truth : (holds : Bool) → exp_uses (exp.Truth holds) ≡ []
uses_truth holds = form _ (CExp-F.Truth holds) (exp.rolls-Truth holds)

pub uses_unsigned : (width : Width) (amount : ℕ) → exp_uses (exp.Unsigned width amount) ≡ []
uses_unsigned width amount = form _ (CExp-F.Unsigned width amount) (exp.rolls-Unsigned width amount)

pub uses_signed : (width : Width) (negative : Bool) (amount : ℕ) → exp_uses (exp.Signed width negative amount) ≡ []
uses_signed width negative amount = form _ (CExp-F.Signed width negative amount) (exp.rolls-Signed width negative amount)

pub uses_name : (name : Name) → exp_uses (exp.Name name) ≡ name ∷ []
uses_name name = form _ (CExp-F.Name name) (exp.rolls-Name name)

pub uses_pointed : (name : Name) → exp_uses (exp.Pointed name) ≡ name ∷ []
uses_pointed name = form _ (CExp-F.Pointed name) (exp.rolls-Pointed name)

pub uses_member : (object : CExp) (name : Name) → exp_uses (exp.Member object name) ≡ exp_uses object
uses_member object name = form _ (CExp-F.Member object name) (exp.rolls-Member object name)

pub uses_element : (array : CExp) (index : CExp) → exp_uses (exp.Element array index) ≡ exp_uses array ++ exp_uses index
uses_element array index = form _ (CExp-F.Element array index) (exp.rolls-Element array index)

pub uses_call : (name : Name) (arguments : List CExp) → exp_uses (exp.Call name arguments) ≡ name ∷ exps_use arguments
uses_call name arguments = form _ (CExp-F.Call name arguments) (exp.rolls-Call name arguments)

pub uses_cast : (type : CType) (part : CExp) → exp_uses (exp.Cast type part) ≡ type_uses type ++ exp_uses part
uses_cast type part = form _ (CExp-F.Cast type part) (exp.rolls-Cast type part)

pub uses_negate : (part : CExp) → exp_uses (exp.Negate part) ≡ exp_uses part
uses_negate part = form _ (CExp-F.Negate part) (exp.rolls-Negate part)

pub uses_not : (part : CExp) → exp_uses (exp.Not part) ≡ exp_uses part
uses_not part = form _ (CExp-F.Not part) (exp.rolls-Not part)

pub uses_address : (part : CExp) → exp_uses (exp.Address part) ≡ exp_uses part
uses_address part = form _ (CExp-F.Address part) (exp.rolls-Address part)

pub uses_binary : (operator : COp) (left : CExp) (right : CExp) → exp_uses (exp.Binary operator left right) ≡ exp_uses left ++ exp_uses right
uses_binary operator left right = form _ (CExp-F.Binary operator left right) (exp.rolls-Binary operator left right)

pub uses_all : (parts : List CExp) → exp_uses (exp.All parts) ≡ exps_use parts
uses_all parts = form _ (CExp-F.All parts) (exp.rolls-All parts)

pub uses_any : (parts : List CExp) → exp_uses (exp.Any parts) ≡ exps_use parts
uses_any parts = form _ (CExp-F.Any parts) (exp.rolls-Any parts)

pub uses_choice : (test : CExp) (first : CExp) (second : CExp) → exp_uses (exp.Choice test first second) ≡ exp_uses test ++ (exp_uses first ++ exp_uses second)
uses_choice test first second = form _ (CExp-F.Choice test first second) (exp.rolls-Choice test first second)

pub statement_comment : (text : List ℕ) → statement_uses (stm.Comment text) ≡ []
statement_comment text = statement_form _ (CStm-F.Comment text) (stm.rolls-Comment text)

pub statement_declare : (variable : CVariable) → statement_uses (stm.Declare variable) ≡ type_uses variable.ty
statement_declare variable = statement_form _ (CStm-F.Declare variable) (stm.rolls-Declare variable)

pub statement_define : (variable : CVariable) (value : CExp) → statement_uses (stm.Define variable value) ≡ type_uses variable.ty ++ exp_uses value
statement_define variable value = statement_form _ (CStm-F.Define variable value) (stm.rolls-Define variable value)

pub statement_assign : (object : CExp) (value : CExp) → statement_uses (stm.Assign object value) ≡ exp_uses object ++ exp_uses value
statement_assign object value = statement_form _ (CStm-F.Assign object value) (stm.rolls-Assign object value)

pub statement_increment : (object : CExp) → statement_uses (stm.Increment object) ≡ exp_uses object
statement_increment object = statement_form _ (CStm-F.Increment object) (stm.rolls-Increment object)

pub statement_decrement : (object : CExp) → statement_uses (stm.Decrement object) ≡ exp_uses object
statement_decrement object = statement_form _ (CStm-F.Decrement object) (stm.rolls-Decrement object)

pub statement_call : (name : Name) (arguments : List CExp) → statement_uses (stm.Call name arguments) ≡ name ∷ exps_use arguments
statement_call name arguments = statement_form _ (CStm-F.Call name arguments) (stm.rolls-Call name arguments)

pub statement_if : (test : CExp) (body : List CStm) (others : List (CExp × List CStm)) (otherwise : List CStm)
    → statement_uses (stm.If test body others otherwise)
    ≡ exp_uses test ++ (statements_use body ++ (flat_map tree_arm_uses others ++ statements_use otherwise))
statement_if test body others otherwise = statement_form _ (CStm-F.If test body others otherwise) (stm.rolls-If test body others otherwise)
    ∙ ap (λ a. exp_uses test ++ (statements_use body ++ (a ++ statements_use otherwise))) (sym (arms_same others))

pub statement_switch : (subject : CExp) (cases : List (CExp × List CStm)) (otherwise : List CStm)
    → statement_uses (stm.Switch subject cases otherwise)
    ≡ exp_uses subject ++ (flat_map tree_arm_uses cases ++ statements_use otherwise)
statement_switch subject cases otherwise = statement_form _ (CStm-F.Switch subject cases otherwise) (stm.rolls-Switch subject cases otherwise)
    ∙ ap (λ a. exp_uses subject ++ (a ++ statements_use otherwise)) (sym (arms_same cases))

pub statement_for : (count : CCount) (body : List CStm)
    → statement_uses (stm.For count body)
    ≡ type_uses count.ty ++ (exp_uses count.limit ++ statements_use body)
statement_for count body = statement_form _ (CStm-F.For count body) (stm.rolls-For count body)

pub statement_break : statement_uses stm.Break ≡ []
statement_break = statement_form _ CStm-F.Break stm.rolls-Break

pub statement_return : (value : Option CExp) → statement_uses (stm.Return value) ≡ value_uses value
statement_return value = statement_form _ (CStm-F.Return value) (stm.rolls-Return value)

pub ruleset exp_forms = (
  common_steps,
  append_assoc,
  more_names,
  uses_truth,
  uses_unsigned,
  uses_signed,
  uses_name,
  uses_pointed,
  uses_member,
  uses_element,
  uses_call,
  uses_cast,
  uses_negate,
  uses_not,
  uses_address,
  uses_binary,
  uses_all,
  uses_any,
  uses_choice,
)

pub ruleset statement_forms = (
  common_steps,
  append_assoc,
  more_names,
  statement_comment,
  statement_declare,
  statement_define,
  statement_assign,
  statement_increment,
  statement_decrement,
  statement_call,
  statement_if,
  statement_switch,
  statement_for,
  statement_break,
  statement_return,
)
