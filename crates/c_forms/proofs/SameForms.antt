-- Whether expressions are the same, by the form of the first one.
use Rattle.std.proofs.Common.{◌≡◌, ℕ, Bool, false, List, ap, sym, ◌∙◌}
use Rattle.c_tree.specs.declared.tree.Width.{Width}
use Rattle.c_tree.specs.declared.tree.CType.{CType}
use Rattle.c_tree.specs.declared.tree.COp.{COp}
use Rattle.c_tree.specs.declared.tree.CExp.{CExp, roll-CExp, out-CExp, map-CExp, fold-roll-CExp}
use Rattle.c_tree.specs.declared.tree.CExp.TheOpen.{CExp-F}
use Rattle.c_tree.specs.declared.tree.CExp.TheVariants as exp
use Rattle.c_forms.specs.Same.{is_truth, is_unsigned, is_signed, is_name, is_pointed, is_member, is_element, same_step, is_same}
use Rattle.c_forms.proofs.OpenedForms.{opened_forms}

form : (e : CExp) (x : CExp-F CExp) (other : CExp) → roll-CExp x ≡ e → is_same e other ≡ same_step (map-CExp CExp (CExp → Bool) is_same x) other
form e x other is = ap (λ d. is_same d other) (sym is) ∙ ap (λ (test : CExp → Bool). test other) (fold-roll-CExp (CExp → Bool) same_step x)

pub same_truth : (holds : Bool) (other : CExp) → is_same (exp.Truth holds) other ≡ is_truth holds (out-CExp other)
same_truth holds other = form _ (CExp-F.Truth holds) other (exp.rolls-Truth holds)

pub same_unsigned : (width : Width) (amount : ℕ) (other : CExp) → is_same (exp.Unsigned width amount) other ≡ is_unsigned amount (out-CExp other)
same_unsigned width amount other = form _ (CExp-F.Unsigned width amount) other (exp.rolls-Unsigned width amount)

pub same_signed : (width : Width) (negative : Bool) (amount : ℕ) (other : CExp)
    → is_same (exp.Signed width negative amount) other ≡ is_signed negative amount (out-CExp other)
same_signed width negative amount other = form _ (CExp-F.Signed width negative amount) other (exp.rolls-Signed width negative amount)

pub same_name : (name : List ℕ) (other : CExp) → is_same (exp.Name name) other ≡ is_name name (out-CExp other)
same_name name other = form _ (CExp-F.Name name) other (exp.rolls-Name name)

pub same_pointed : (name : List ℕ) (other : CExp) → is_same (exp.Pointed name) other ≡ is_pointed name (out-CExp other)
same_pointed name other = form _ (CExp-F.Pointed name) other (exp.rolls-Pointed name)

pub same_member : (object : CExp) (name : List ℕ) (other : CExp) → is_same (exp.Member object name) other ≡ is_member (is_same object) name (out-CExp other)
same_member object name other = form _ (CExp-F.Member object name) other (exp.rolls-Member object name)

pub same_element : (array : CExp) (index : CExp) (other : CExp)
    → is_same (exp.Element array index) other ≡ is_element (is_same array) (is_same index) (out-CExp other)
same_element array index other = form _ (CExp-F.Element array index) other (exp.rolls-Element array index)

pub same_call : (name : List ℕ) (arguments : List CExp) (other : CExp) → is_same (exp.Call name arguments) other ≡ false
same_call name arguments other = form _ (CExp-F.Call name arguments) other (exp.rolls-Call name arguments)

pub same_cast : (type : CType) (part : CExp) (other : CExp) → is_same (exp.Cast type part) other ≡ false
same_cast type part other = form _ (CExp-F.Cast type part) other (exp.rolls-Cast type part)

pub same_negate : (part : CExp) (other : CExp) → is_same (exp.Negate part) other ≡ false
same_negate part other = form _ (CExp-F.Negate part) other (exp.rolls-Negate part)

pub same_not : (part : CExp) (other : CExp) → is_same (exp.Not part) other ≡ false
same_not part other = form _ (CExp-F.Not part) other (exp.rolls-Not part)

pub same_address : (part : CExp) (other : CExp) → is_same (exp.Address part) other ≡ false
same_address part other = form _ (CExp-F.Address part) other (exp.rolls-Address part)

pub same_binary : (operator : COp) (left : CExp) (right : CExp) (other : CExp) → is_same (exp.Binary operator left right) other ≡ false
same_binary operator left right other = form _ (CExp-F.Binary operator left right) other (exp.rolls-Binary operator left right)

pub same_all : (parts : List CExp) (other : CExp) → is_same (exp.All parts) other ≡ false
same_all parts other = form _ (CExp-F.All parts) other (exp.rolls-All parts)

pub same_any : (parts : List CExp) (other : CExp) → is_same (exp.Any parts) other ≡ false
same_any parts other = form _ (CExp-F.Any parts) other (exp.rolls-Any parts)

pub same_choice : (test : CExp) (first : CExp) (second : CExp) (other : CExp) → is_same (exp.Choice test first second) other ≡ false
same_choice test first second other = form _ (CExp-F.Choice test first second) other (exp.rolls-Choice test first second)

pub ruleset same_forms = (
  opened_forms,
  same_truth,
  same_unsigned,
  same_signed,
  same_name,
  same_pointed,
  same_member,
  same_element,
  same_call,
  same_cast,
  same_negate,
  same_not,
  same_address,
  same_binary,
  same_all,
  same_any,
  same_choice,
)
