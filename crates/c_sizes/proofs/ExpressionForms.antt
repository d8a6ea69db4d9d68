-- The deepest call of an expression, form by form.
use Rattle.std.proofs.Common.{◌≡◌, ℕ, List, map, ap, sym, ◌∙◌}
use Rattle.std.specs.Prelude.{Bool}
use Rattle.std.proofs.lemmas.Grind.{common_steps}
use Rattle.c_tree.specs.declared.tree.Width.{Width}
use Rattle.c_tree.specs.declared.tree.CType.{CType}
use Rattle.c_tree.specs.declared.tree.COp.{COp}
use Rattle.c_tree.specs.declared.tree.CExp.{CExp, roll-CExp, map-CExp, fold-roll-CExp}
use Rattle.c_tree.specs.declared.tree.CExp.TheOpen.{CExp-F}
use Rattle.c_tree.specs.declared.tree.CExp.TheVariants as exp
use Rattle.c_sizes.specs.declared.frame.Deepest.{Deepest}
use Rattle.c_sizes.specs.Frames.{Functions, no_call, deeper, deepest_of, call_of, calls_within, expression_calls}

call_form : (functions : Functions) (e : CExp) (x : CExp-F CExp) → roll-CExp x ≡ e
    → expression_calls functions e ≡ calls_within functions (map-CExp CExp Deepest (expression_calls functions) x)
call_form functions e x is = ap (expression_calls functions) (sym is) ∙ fold-roll-CExp Deepest (calls_within functions) x

pub calls_of_truth : (functions : Functions) (holds : Bool) → expression_calls functions (exp.Truth holds) ≡ no_call
calls_of_truth functions holds = call_form functions _ (CExp-F.Truth holds) (exp.rolls-Truth holds)

pub calls_of_unsigned : (functions : Functions) (width : Width) (amount : ℕ) → expression_calls functions (exp.Unsigned width amount) ≡ no_call
calls_of_unsigned functions width amount = call_form functions _ (CExp-F.Unsigned width amount) (exp.rolls-Unsigned width amount)

pub calls_of_signed : (functions : Functions) (width : Width) (negative : Bool) (amount : ℕ)
    → expression_calls functions (exp.Signed width negative amount) ≡ no_call
calls_of_signed functions width negative amount =
    call_form functions _ (CExp-F.Signed width negative amount) (exp.rolls-Signed width negative amount)

pub calls_of_name : (functions : Functions) (name : List ℕ) → expression_calls functions (exp.Name name) ≡ no_call
calls_of_name functions name = call_form functions _ (CExp-F.Name name) (exp.rolls-Name name)

pub calls_of_pointed : (functions : Functions) (name : List ℕ) → expression_calls functions (exp.Pointed name) ≡ no_call
calls_of_pointed functions name = call_form functions _ (CExp-F.Pointed name) (exp.rolls-Pointed name)

pub calls_of_member : (functions : Functions) (object : CExp) (name : List ℕ)
    → expression_calls functions (exp.Member object name) ≡ expression_calls functions object
calls_of_member functions object name = call_form functions _ (CExp-F.Member object name) (exp.rolls-Member object name)

pub calls_of_element : (functions : Functions) (array index : CExp)
    → expression_calls functions (exp.Element array index) ≡ deeper (expression_calls functions array) (expression_calls functions index)
calls_of_element functions array index = call_form functions _ (CExp-F.Element array index) (exp.rolls-Element array index)

pub calls_of_call : (functions : Functions) (name : List ℕ) (arguments : List CExp)
    → expression_calls functions (exp.Call name arguments) ≡ call_of functions name (map (expression_calls functions) arguments)
calls_of_call functions name arguments = call_form functions _ (CExp-F.Call name arguments) (exp.rolls-Call name arguments)

pub calls_of_cast : (functions : Functions) (type : CType) (part : CExp)
    → expression_calls functions (exp.Cast type part) ≡ expression_calls functions part
calls_of_cast functions type part = call_form functions _ (CExp-F.Cast type part) (exp.rolls-Cast type part)

pub calls_of_negate : (functions : Functions) (part : CExp) → expression_calls functions (exp.Negate part) ≡ expression_calls functions part
calls_of_negate functions part = call_form functions _ (CExp-F.Negate part) (exp.rolls-Negate part)

pub calls_of_not : (functions : Functions) (part : CExp) → expression_calls functions (exp.Not part) ≡ expression_calls functions part
calls_of_not functions part = call_form functions _ (CExp-F.Not part) (exp.rolls-Not part)

pub calls_of_address : (functions : Functions) (part : CExp) → expression_calls functions (exp.Address part) ≡ expression_calls functions part
calls_of_address functions part = call_form functions _ (CExp-F.Address part) (exp.rolls-Address part)

pub calls_of_binary : (functions : Functions) (operator : COp) (left right : CExp)
    → expression_calls functions (exp.Binary operator left right) ≡ deeper (expression_calls functions left) (expression_calls functions right)
calls_of_binary functions operator left right = call_form functions _ (CExp-F.Binary operator left right) (exp.rolls-Binary operator left right)

pub calls_of_all : (functions : Functions) (parts : List CExp)
    → expression_calls functions (exp.All parts) ≡ deepest_of (map (expression_calls functions) parts)
calls_of_all functions parts = call_form functions _ (CExp-F.All parts) (exp.rolls-All parts)

pub calls_of_any : (functions : Functions) (parts : List CExp)
    → expression_calls functions (exp.Any parts) ≡ deepest_of (map (expression_calls functions) parts)
calls_of_any functions parts = call_form functions _ (CExp-F.Any parts) (exp.rolls-Any parts)

pub calls_of_choice : (functions : Functions) (test first second : CExp)
    → expression_calls functions (exp.Choice test first second)
    ≡ deeper (expression_calls functions test) (deeper (expression_calls functions first) (expression_calls functions second))
calls_of_choice functions test first second = call_form functions _ (CExp-F.Choice test first second) (exp.rolls-Choice test first second)

pub ruleset call_forms = (
  common_steps,
  calls_of_truth,
  calls_of_unsigned,
  calls_of_signed,
  calls_of_name,
  calls_of_pointed,
  calls_of_member,
  calls_of_element,
  calls_of_call,
  calls_of_cast,
  calls_of_negate,
  calls_of_not,
  calls_of_address,
  calls_of_binary,
  calls_of_all,
  calls_of_any,
  calls_of_choice,
)
