-- What is written of an expression, form by form: its text and its rank.
use Rattle.std.proofs.Common.{◌≡◌, ℕ, ◌<◌, List, [], ◌∷◌, length, map, refl, ap, sym, ◌∙◌, arith, append_assoc}
use Rattle.std.specs.Prelude.{Bool, codes}
use Rattle.std.proofs.lemmas.Grind.{common_steps}
use Rattle.c_tree.specs.declared.rank.TheConstants.{ANY, COMPARISON, PREFIX, CAST, UNIT}
use Rattle.c_tree.specs.declared.tree.Width.{Width}
use Rattle.c_tree.specs.declared.tree.CType.{CType}
use Rattle.c_tree.specs.declared.tree.COp.{COp}
use Rattle.c_tree.specs.declared.tree.CExp.{CExp, roll-CExp, map-CExp, fold-roll-CExp}
use Rattle.c_tree.specs.declared.tree.CExp.TheOpen.{CExp-F}
use Rattle.c_tree.specs.declared.tree.CExp.TheVariants as exp
use Rattle.c_tree.specs.Words.{separated, truth_text, unsigned_text, signed_text}
use Rattle.c_tree.specs.Expressions.{Spelled, all_text, any_text, binary_text, call_text, cast_text, choice_text, element_text, member_text}
use Rattle.c_tree.specs.Expressions.{op_rank, operand_text, pointed_text, prefix_text, signed_rank, spell_expression, spelled}

text_form : (e : CExp) (x : CExp-F CExp) → roll-CExp x ≡ e → (spelled e).text ≡ (spell_expression (map-CExp CExp Spelled spelled x)).text
text_form e x is = ap (λ d. (spelled d).text) (sym is) ∙ ap (λ (s : Spelled). s.text) (fold-roll-CExp Spelled spell_expression x)

rank_form : (e : CExp) (x : CExp-F CExp) → roll-CExp x ≡ e → (spelled e).rank ≡ (spell_expression (map-CExp CExp Spelled spelled x)).rank
rank_form e x is = ap (λ d. (spelled d).rank) (sym is) ∙ ap (λ (s : Spelled). s.rank) (fold-roll-CExp Spelled spell_expression x)

pub text_of_truth : (holds : Bool) → (spelled (exp.Truth holds)).text ≡ truth_text holds
text_of_truth holds = text_form _ (CExp-F.Truth holds) (exp.rolls-Truth holds)

pub rank_of_truth : (holds : Bool) → (spelled (exp.Truth holds)).rank ≡ UNIT
rank_of_truth holds = rank_form _ (CExp-F.Truth holds) (exp.rolls-Truth holds)

pub text_of_unsigned : (width : Width) (amount : ℕ) → (spelled (exp.Unsigned width amount)).text ≡ unsigned_text width amount
text_of_unsigned width amount = text_form _ (CExp-F.Unsigned width amount) (exp.rolls-Unsigned width amount)

pub rank_of_unsigned : (width : Width) (amount : ℕ) → (spelled (exp.Unsigned width amount)).rank ≡ UNIT
rank_of_unsigned width amount = rank_form _ (CExp-F.Unsigned width amount) (exp.rolls-Unsigned width amount)

pub text_of_signed : (width : Width) (negative : Bool) (amount : ℕ) → (spelled (exp.Signed width negative amount)).text ≡ signed_text width negative amount
text_of_signed width negative amount = text_form _ (CExp-F.Signed width negative amount) (exp.rolls-Signed width negative amount)

pub rank_of_signed : (width : Width) (negative : Bool) (amount : ℕ) → (spelled (exp.Signed width negative amount)).rank ≡ signed_rank negative
rank_of_signed width negative amount = rank_form _ (CExp-F.Signed width negative amount) (exp.rolls-Signed width negative amount)

pub text_of_name : (name : List ℕ) → (spelled (exp.Name name)).text ≡ name
text_of_name name = text_form _ (CExp-F.Name name) (exp.rolls-Name name)

pub rank_of_name : (name : List ℕ) → (spelled (exp.Name name)).rank ≡ UNIT
rank_of_name name = rank_form _ (CExp-F.Name name) (exp.rolls-Name name)

pub text_of_pointed : (name : List ℕ) → (spelled (exp.Pointed name)).text ≡ pointed_text name
text_of_pointed name = text_form _ (CExp-F.Pointed name) (exp.rolls-Pointed name)

pub rank_of_pointed : (name : List ℕ) → (spelled (exp.Pointed name)).rank ≡ UNIT
rank_of_pointed name = rank_form _ (CExp-F.Pointed name) (exp.rolls-Pointed name)

pub text_of_member : (object : CExp) (name : List ℕ) → (spelled (exp.Member object name)).text ≡ member_text (spelled object) name
text_of_member object name = text_form _ (CExp-F.Member object name) (exp.rolls-Member object name)

pub rank_of_member : (object : CExp) (name : List ℕ) → (spelled (exp.Member object name)).rank ≡ UNIT
rank_of_member object name = rank_form _ (CExp-F.Member object name) (exp.rolls-Member object name)

pub text_of_element : (array index : CExp) → (spelled (exp.Element array index)).text ≡ element_text (spelled array) (spelled index)
text_of_element array index = text_form _ (CExp-F.Element array index) (exp.rolls-Element array index)

pub rank_of_element : (array index : CExp) → (spelled (exp.Element array index)).rank ≡ UNIT
rank_of_element array index = rank_form _ (CExp-F.Element array index) (exp.rolls-Element array index)

pub text_of_call : (name : List ℕ) (arguments : List CExp) → (spelled (exp.Call name arguments)).text ≡ call_text name (map spelled arguments)
text_of_call name arguments = text_form _ (CExp-F.Call name arguments) (exp.rolls-Call name arguments)

pub rank_of_call : (name : List ℕ) (arguments : List CExp) → (spelled (exp.Call name arguments)).rank ≡ UNIT
rank_of_call name arguments = rank_form _ (CExp-F.Call name arguments) (exp.rolls-Call name arguments)

pub text_of_cast : (type : CType) (part : CExp) → (spelled (exp.Cast type part)).text ≡ cast_text type (spelled part)
text_of_cast type part = text_form _ (CExp-F.Cast type part) (exp.rolls-Cast type part)

pub rank_of_cast : (type : CType) (part : CExp) → (spelled (exp.Cast type part)).rank ≡ CAST
rank_of_cast type part = rank_form _ (CExp-F.Cast type part) (exp.rolls-Cast type part)

pub text_of_negate : (part : CExp) → (spelled (exp.Negate part)).text ≡ prefix_text (codes "-") (spelled part)
text_of_negate part = text_form _ (CExp-F.Negate part) (exp.rolls-Negate part)

pub rank_of_negate : (part : CExp) → (spelled (exp.Negate part)).rank ≡ PREFIX
rank_of_negate part = rank_form _ (CExp-F.Negate part) (exp.rolls-Negate part)

pub text_of_not : (part : CExp) → (spelled (exp.Not part)).text ≡ prefix_text (codes "!") (spelled part)
text_of_not part = text_form _ (CExp-F.Not part) (exp.rolls-Not part)

pub rank_of_not : (part : CExp) → (spelled (exp.Not part)).rank ≡ PREFIX
rank_of_not part = rank_form _ (CExp-F.Not part) (exp.rolls-Not part)

pub text_of_address : (part : CExp) → (spelled (exp.Address part)).text ≡ prefix_text (codes "&") (spelled part)
text_of_address part = text_form _ (CExp-F.Address part) (exp.rolls-Address part)

pub rank_of_address : (part : CExp) → (spelled (exp.Address part)).rank ≡ PREFIX
rank_of_address part = rank_form _ (CExp-F.Address part) (exp.rolls-Address part)

pub text_of_binary : (operator : COp) (left right : CExp)
    → (spelled (exp.Binary operator left right)).text ≡ binary_text operator (spelled left) (spelled right)
text_of_binary operator left right = text_form _ (CExp-F.Binary operator left right) (exp.rolls-Binary operator left right)

pub rank_of_binary : (operator : COp) (left right : CExp) → (spelled (exp.Binary operator left right)).rank ≡ op_rank operator
rank_of_binary operator left right = rank_form _ (CExp-F.Binary operator left right) (exp.rolls-Binary operator left right)

pub text_of_all : (parts : List CExp) → (spelled (exp.All parts)).text ≡ all_text (map spelled parts)
text_of_all parts = text_form _ (CExp-F.All parts) (exp.rolls-All parts)

pub rank_of_all : (parts : List CExp) → (spelled (exp.All parts)).rank ≡ ANY
rank_of_all parts = rank_form _ (CExp-F.All parts) (exp.rolls-All parts)

pub text_of_any : (parts : List CExp) → (spelled (exp.Any parts)).text ≡ any_text (map spelled parts)
text_of_any parts = text_form _ (CExp-F.Any parts) (exp.rolls-Any parts)

pub rank_of_any : (parts : List CExp) → (spelled (exp.Any parts)).rank ≡ ANY
rank_of_any parts = rank_form _ (CExp-F.Any parts) (exp.rolls-Any parts)

pub text_of_choice : (test first second : CExp) → (spelled (exp.Choice test first second)).text ≡ choice_text (spelled test) (spelled first) (spelled second)
text_of_choice test first second = text_form _ (CExp-F.Choice test first second) (exp.rolls-Choice test first second)

pub rank_of_choice : (test first second : CExp) → (spelled (exp.Choice test first second)).rank ≡ ANY
rank_of_choice test first second = rank_form _ (CExp-F.Choice test first second) (exp.rolls-Choice test first second)

-- a chain of one part or more
pub some_all : (parts : List CExp) → 0 < length parts
    → all_text (map spelled parts) ≡ separated (codes " && ") (map (operand_text COMPARISON) (map spelled parts))
some_all [] h = absurd (omega arith)
some_all (first ∷ others) h = refl

pub some_any : (parts : List CExp) → 0 < length parts
    → any_text (map spelled parts) ≡ separated (codes " || ") (map (operand_text COMPARISON) (map spelled parts))
some_any [] h = absurd (omega arith)
some_any (first ∷ others) h = refl

pub ruleset text_forms = (
  common_steps,
  append_assoc,
  text_of_truth,
  text_of_unsigned,
  text_of_signed,
  text_of_name,
  text_of_pointed,
  text_of_member,
  text_of_element,
  text_of_call,
  text_of_cast,
  text_of_negate,
  text_of_not,
  text_of_address,
  text_of_binary,
  text_of_all,
  text_of_any,
  text_of_choice,
)

pub ruleset rank_forms = (
  common_steps,
  rank_of_truth,
  rank_of_unsigned,
  rank_of_signed,
  rank_of_name,
  rank_of_pointed,
  rank_of_member,
  rank_of_element,
  rank_of_call,
  rank_of_cast,
  rank_of_negate,
  rank_of_not,
  rank_of_address,
  rank_of_binary,
  rank_of_all,
  rank_of_any,
  rank_of_choice,
)

pub ruleset chain_steps = (common_steps, append_assoc, some_all, some_any)
