-- Whether expressions last, form by form.
use Rattle.std.proofs.Common.{◌≡◌, ℕ, Bool, true, false, ◌&&◌, List, ap, sym, ◌∙◌}
use Rattle.c_tree.specs.declared.tree.Width.{Width}
use Rattle.c_tree.specs.declared.tree.CType.{CType}
use Rattle.c_tree.specs.declared.tree.COp.{COp}
use Rattle.c_tree.specs.declared.tree.CExp.{CExp, roll-CExp, map-CExp, fold-roll-CExp}
use Rattle.c_tree.specs.declared.tree.CExp.TheOpen.{CExp-F}
use Rattle.c_tree.specs.declared.tree.CExp.TheVariants as exp
use Rattle.std.proofs.lemmas.Grind.{common_steps}
use Rattle.c_forms.specs.Expressions.{lasting_step, is_lasting}

form : (e : CExp) (x : CExp-F CExp) → roll-CExp x ≡ e → is_lasting e ≡ lasting_step (map-CExp CExp Bool is_lasting x)
form e x is = ap is_lasting (sym is) ∙ fold-roll-CExp Bool lasting_step x

pub lasting_truth : (holds : Bool) → is_lasting (exp.Truth holds) ≡ true
lasting_truth holds = form _ (CExp-F.Truth holds) (exp.rolls-Truth holds)

pub lasting_unsigned : (width : Width) (amount : ℕ) → is_lasting (exp.Unsigned width amount) ≡ true
lasting_unsigned width amount = form _ (CExp-F.Unsigned width amount) (exp.rolls-Unsigned width amount)

pub lasting_signed : (width : Width) (negative : Bool) (amount : ℕ) → is_lasting (exp.Signed width negative amount) ≡ true
lasting_signed width negative amount = form _ (CExp-F.Signed width negative amount) (exp.rolls-Signed width negative amount)

pub lasting_name : (name : List ℕ) → is_lasting (exp.Name name) ≡ true
lasting_name name = form _ (CExp-F.Name name) (exp.rolls-Name name)

pub lasting_pointed : (name : List ℕ) → is_lasting (exp.Pointed name) ≡ true
lasting_pointed name = form _ (CExp-F.Pointed name) (exp.rolls-Pointed name)

pub lasting_member : (object : CExp) (name : List ℕ) → is_lasting (exp.Member object name) ≡ is_lasting object
lasting_member object name = form _ (CExp-F.Member object name) (exp.rolls-Member object name)

pub lasting_element : (array : CExp) (index : CExp) → is_lasting (exp.Element array index) ≡ (is_lasting array && is_lasting index)
lasting_element array index = form _ (CExp-F.Element array index) (exp.rolls-Element array index)

pub lasting_call : (name : List ℕ) (arguments : List CExp) → is_lasting (exp.Call name arguments) ≡ false
lasting_call name arguments = form _ (CExp-F.Call name arguments) (exp.rolls-Call name arguments)

pub lasting_cast : (type : CType) (part : CExp) → is_lasting (exp.Cast type part) ≡ false
lasting_cast type part = form _ (CExp-F.Cast type part) (exp.rolls-Cast type part)

pub lasting_negate : (part : CExp) → is_lasting (exp.Negate part) ≡ false
lasting_negate part = form _ (CExp-F.Negate part) (exp.rolls-Negate part)

pub lasting_not : (part : CExp) → is_lasting (exp.Not part) ≡ false
lasting_not part = form _ (CExp-F.Not part) (exp.rolls-Not part)

pub lasting_address : (part : CExp) → is_lasting (exp.Address part) ≡ false
lasting_address part = form _ (CExp-F.Address part) (exp.rolls-Address part)

pub lasting_binary : (operator : COp) (left : CExp) (right : CExp) → is_lasting (exp.Binary operator left right) ≡ false
lasting_binary operator left right = form _ (CExp-F.Binary operator left right) (exp.rolls-Binary operator left right)

pub lasting_all : (parts : List CExp) → is_lasting (exp.All parts) ≡ false
lasting_all parts = form _ (CExp-F.All parts) (exp.rolls-All parts)

pub lasting_any : (parts : List CExp) → is_lasting (exp.Any parts) ≡ false
lasting_any parts = form _ (CExp-F.Any parts) (exp.rolls-Any parts)

pub lasting_choice : (test : CExp) (first : CExp) (second : CExp) → is_lasting (exp.Choice test first second) ≡ false
lasting_choice test first second = form _ (CExp-F.Choice test first second) (exp.rolls-Choice test first second)

pub ruleset lasting_forms = (
  common_steps,
  lasting_truth,
  lasting_unsigned,
  lasting_signed,
  lasting_name,
  lasting_pointed,
  lasting_member,
  lasting_element,
  lasting_call,
  lasting_cast,
  lasting_negate,
  lasting_not,
  lasting_address,
  lasting_binary,
  lasting_all,
  lasting_any,
  lasting_choice,
)
