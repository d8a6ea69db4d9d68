-- What each form of expressions and statements means, by what its parts mean.
use Rattle.std.proofs.Common.{◌≡◌, ℕ, Bool, List, Option, ap, sym, ◌∙◌}
use Rattle.c_tree.specs.declared.tree.Width.{Width}
use Rattle.c_tree.specs.declared.tree.CType.{CType}
use Rattle.c_tree.specs.declared.tree.COp.{COp}
use Rattle.c_tree.specs.declared.tree.CExp.{CExp, roll-CExp, map-CExp, fold-roll-CExp}
use Rattle.c_tree.specs.declared.tree.CExp.TheOpen.{CExp-F}
use Rattle.c_tree.specs.declared.tree.CExp.TheVariants as exp
use Rattle.c_tree.specs.declared.tree.CVariable.{CVariable}
use Rattle.c_tree.specs.declared.tree.CCount.{CCount}
use Rattle.c_tree.specs.declared.tree.CStm.{CStm, roll-CStm, map-CStm, fold-roll-CStm}
use Rattle.c_tree.specs.declared.tree.CStm.TheOpen.{CStm-F}
use Rattle.c_tree.specs.declared.tree.CStm.TheVariants as stm
use Rattle.c_meaning.specs.Expressions.{Context, Meant, mean_expression, meant}
use Rattle.c_meaning.specs.Statements.{Doing, do_statement, doing}

abbrev means : CExp-F CExp → Meant
means x = mean_expression (map-CExp CExp Meant meant x)

abbrev does : CStm-F CStm → Doing
does x = do_statement (map-CStm CStm Doing doing x)

pub meant_form : {e : CExp} (x : CExp-F CExp) → roll-CExp x ≡ e → meant e ≡ means x
meant_form x is = ap meant (sym is) ∙ fold-roll-CExp Meant mean_expression x

pub doing_form : {s : CStm} (x : CStm-F CStm) (context : Context) → roll-CStm x ≡ s → doing s context ≡ does x context
doing_form x context is = ap (λ (d : Doing). d context) (ap doing (sym is) ∙ fold-roll-CStm Doing do_statement x)

pub truth_means : (holds : Bool) → meant (exp.Truth holds) ≡ means (CExp-F.Truth holds)
truth_means holds = meant_form (CExp-F.Truth holds) (exp.rolls-Truth holds)

pub unsigned_means : (width : Width) (amount : ℕ) → meant (exp.Unsigned width amount) ≡ means (CExp-F.Unsigned width amount)
unsigned_means width amount = meant_form (CExp-F.Unsigned width amount) (exp.rolls-Unsigned width amount)

pub signed_means : (width : Width) (negative : Bool) (amount : ℕ) → meant (exp.Signed width negative amount) ≡ means (CExp-F.Signed width negative amount)
signed_means width negative amount = meant_form (CExp-F.Signed width negative amount) (exp.rolls-Signed width negative amount)

pub name_means : (name : List ℕ) → meant (exp.Name name) ≡ means (CExp-F.Name name)
name_means name = meant_form (CExp-F.Name name) (exp.rolls-Name name)

pub pointed_means : (name : List ℕ) → meant (exp.Pointed name) ≡ means (CExp-F.Pointed name)
pointed_means name = meant_form (CExp-F.Pointed name) (exp.rolls-Pointed name)

pub member_means : (object : CExp) (name : List ℕ) → meant (exp.Member object name) ≡ means (CExp-F.Member object name)
member_means object name = meant_form (CExp-F.Member object name) (exp.rolls-Member object name)

pub element_means : (array index : CExp) → meant (exp.Element array index) ≡ means (CExp-F.Element array index)
element_means array index = meant_form (CExp-F.Element array index) (exp.rolls-Element array index)

pub call_means : (name : List ℕ) (arguments : List CExp) → meant (exp.Call name arguments) ≡ means (CExp-F.Call name arguments)
call_means name arguments = meant_form (CExp-F.Call name arguments) (exp.rolls-Call name arguments)

pub cast_means : (type : CType) (part : CExp) → meant (exp.Cast type part) ≡ means (CExp-F.Cast type part)
cast_means type part = meant_form (CExp-F.Cast type part) (exp.rolls-Cast type part)

pub negate_means : (part : CExp) → meant (exp.Negate part) ≡ means (CExp-F.Negate part)
negate_means part = meant_form (CExp-F.Negate part) (exp.rolls-Negate part)

pub not_means : (part : CExp) → meant (exp.Not part) ≡ means (CExp-F.Not part)
not_means part = meant_form (CExp-F.Not part) (exp.rolls-Not part)

pub address_means : (part : CExp) → meant (exp.Address part) ≡ means (CExp-F.Address part)
address_means part = meant_form (CExp-F.Address part) (exp.rolls-Address part)

pub binary_means : (operator : COp) (left right : CExp) → meant (exp.Binary operator left right) ≡ means (CExp-F.Binary operator left right)
binary_means operator left right = meant_form (CExp-F.Binary operator left right) (exp.rolls-Binary operator left right)

pub all_means : (parts : List CExp) → meant (exp.All parts) ≡ means (CExp-F.All parts)
all_means parts = meant_form (CExp-F.All parts) (exp.rolls-All parts)

pub any_means : (parts : List CExp) → meant (exp.Any parts) ≡ means (CExp-F.Any parts)
any_means parts = meant_form (CExp-F.Any parts) (exp.rolls-Any parts)

pub choice_means : (test first second : CExp) → meant (exp.Choice test first second) ≡ means (CExp-F.Choice test first second)
choice_means test first second = meant_form (CExp-F.Choice test first second) (exp.rolls-Choice test first second)

-- ---- statements

pub comment_does : (text : List ℕ) (context : Context) → doing (stm.Comment text) context ≡ does (CStm-F.Comment text) context
comment_does text context = doing_form (CStm-F.Comment text) context (stm.rolls-Comment text)

pub declare_does : (variable : CVariable) (context : Context) → doing (stm.Declare variable) context ≡ does (CStm-F.Declare variable) context
declare_does variable context = doing_form (CStm-F.Declare variable) context (stm.rolls-Declare variable)

pub define_does : (variable : CVariable) (value : CExp) (context : Context)
    → doing (stm.Define variable value) context ≡ does (CStm-F.Define variable value) context
define_does variable value context = doing_form (CStm-F.Define variable value) context (stm.rolls-Define variable value)

pub assign_does : (object value : CExp) (context : Context) → doing (stm.Assign object value) context ≡ does (CStm-F.Assign object value) context
assign_does object value context = doing_form (CStm-F.Assign object value) context (stm.rolls-Assign object value)

pub increment_does : (object : CExp) (context : Context) → doing (stm.Increment object) context ≡ does (CStm-F.Increment object) context
increment_does object context = doing_form (CStm-F.Increment object) context (stm.rolls-Increment object)

pub decrement_does : (object : CExp) (context : Context) → doing (stm.Decrement object) context ≡ does (CStm-F.Decrement object) context
decrement_does object context = doing_form (CStm-F.Decrement object) context (stm.rolls-Decrement object)

pub call_does : (name : List ℕ) (arguments : List CExp) (context : Context)
    → doing (stm.Call name arguments) context ≡ does (CStm-F.Call name arguments) context
call_does name arguments context = doing_form (CStm-F.Call name arguments) context (stm.rolls-Call name arguments)

pub if_does : (test : CExp) (body : List CStm) (others : List (CExp × List CStm)) (otherwise : List CStm) (context : Context)
    → doing (stm.If test body others otherwise) context ≡ does (CStm-F.If test body others otherwise) context
if_does test body others otherwise context = doing_form (CStm-F.If test body others otherwise) context (stm.rolls-If test body others otherwise)

pub switch_does : (subject : CExp) (cases : List (CExp × List CStm)) (otherwise : List CStm) (context : Context)
    → doing (stm.Switch subject cases otherwise) context ≡ does (CStm-F.Switch subject cases otherwise) context
switch_does subject cases otherwise context = doing_form (CStm-F.Switch subject cases otherwise) context (stm.rolls-Switch subject cases otherwise)

pub for_does : (count : CCount) (body : List CStm) (context : Context) → doing (stm.For count body) context ≡ does (CStm-F.For count body) context
for_does count body context = doing_form (CStm-F.For count body) context (stm.rolls-For count body)

pub return_does : (value : Option CExp) (context : Context) → doing (stm.Return value) context ≡ does (CStm-F.Return value) context
return_does value context = doing_form (CStm-F.Return value) context (stm.rolls-Return value)

pub break_does : (context : Context) → doing stm.Break context ≡ does CStm-F.Break context
break_does context = doing_form CStm-F.Break context stm.rolls-Break

pub ruleset form_steps = (
  truth_means,
  unsigned_means,
  signed_means,
  name_means,
  pointed_means,
  member_means,
  element_means,
  call_means,
  cast_means,
  negate_means,
  not_means,
  address_means,
  binary_means,
  all_means,
  any_means,
  choice_means,
  comment_does,
  declare_does,
  define_does,
  assign_does,
  increment_does,
  decrement_does,
  call_does,
  if_does,
  switch_does,
  for_does,
  return_does,
  break_does,
)
