-- Which names stand in expressions and statements, form by form.
use Rattle.std.proofs.Common.{◌≡◌, ℕ, Bool, true, false, ◌||◌, List, [], ◌∷◌, Option, map, refl, ap, sym, ◌∙◌}
use Rattle.c_tree.specs.declared.tree.Width.{Width}
use Rattle.c_tree.specs.declared.tree.CType.{CType}
use Rattle.c_tree.specs.declared.tree.COp.{COp}
use Rattle.c_tree.specs.declared.tree.CExp.{CExp, roll-CExp, map-CExp, fold-roll-CExp}
use Rattle.c_tree.specs.declared.tree.CExp.TheOpen.{CExp-F}
use Rattle.c_tree.specs.declared.tree.CExp.TheVariants as exp
use Rattle.c_tree.specs.declared.tree.CVariable.{CVariable}
use Rattle.c_tree.specs.declared.tree.CCount.{CCount}
use Rattle.c_tree.specs.declared.tree.CStm.{CStm, roll-CStm, map-CStm, fold-roll-CStm}
use Rattle.c_tree.specs.declared.tree.CStm.TheOpen.{CStm-F}
use Rattle.c_tree.specs.declared.tree.CStm.TheVariants as stm
use Rattle.std.specs.Str.{bytes_eq}
use Rattle.std.proofs.lemmas.Grind.{common_steps}
use Rattle.c_forms.specs.Mentions.{mention_step, exp_mentions, some_mention, value_mentions, arms_mention, statement_step, statement_mentions}
use Rattle.c_forms.specs.Mentions.{mentions}
use Rattle.c_forms.specs.inner.Arms.{tree_arms_mention}

form : (word : List ℕ) (e : CExp) (x : CExp-F CExp) → roll-CExp x ≡ e → exp_mentions word e ≡ mention_step word (map-CExp CExp Bool (exp_mentions word) x)
form word e x is = ap (exp_mentions word) (sym is) ∙ fold-roll-CExp Bool (mention_step word) x

pub mentions_truth : (word : List ℕ) (holds : Bool) → exp_mentions word (exp.Truth holds) ≡ false
mentions_truth word holds = form word _ (CExp-F.Truth holds) (exp.rolls-Truth holds)

pub mentions_unsigned : (word : List ℕ) (width : Width) (amount : ℕ) → exp_mentions word (exp.Unsigned width amount) ≡ false
mentions_unsigned word width amount = form word _ (CExp-F.Unsigned width amount) (exp.rolls-Unsigned width amount)

pub mentions_signed : (word : List ℕ) (width : Width) (negative : Bool) (amount : ℕ) → exp_mentions word (exp.Signed width negative amount) ≡ false
mentions_signed word width negative amount = form word _ (CExp-F.Signed width negative amount) (exp.rolls-Signed width negative amount)

pub mentions_name : (word : List ℕ) (name : List ℕ) → exp_mentions word (exp.Name name) ≡ bytes_eq name word
mentions_name word name = form word _ (CExp-F.Name name) (exp.rolls-Name name)

pub mentions_pointed : (word : List ℕ) (name : List ℕ) → exp_mentions word (exp.Pointed name) ≡ bytes_eq name word
mentions_pointed word name = form word _ (CExp-F.Pointed name) (exp.rolls-Pointed name)

pub mentions_member : (word : List ℕ) (object : CExp) (name : List ℕ) → exp_mentions word (exp.Member object name) ≡ exp_mentions word object
mentions_member word object name = form word _ (CExp-F.Member object name) (exp.rolls-Member object name)

pub mentions_element : (word : List ℕ) (array : CExp) (index : CExp)
    → exp_mentions word (exp.Element array index) ≡ (exp_mentions word array || exp_mentions word index)
mentions_element word array index = form word _ (CExp-F.Element array index) (exp.rolls-Element array index)

pub mentions_call : (word : List ℕ) (name : List ℕ) (arguments : List CExp) → exp_mentions word (exp.Call name arguments) ≡ some_mention word arguments
mentions_call word name arguments = form word _ (CExp-F.Call name arguments) (exp.rolls-Call name arguments)

pub mentions_cast : (word : List ℕ) (type : CType) (part : CExp) → exp_mentions word (exp.Cast type part) ≡ exp_mentions word part
mentions_cast word type part = form word _ (CExp-F.Cast type part) (exp.rolls-Cast type part)

pub mentions_negate : (word : List ℕ) (part : CExp) → exp_mentions word (exp.Negate part) ≡ exp_mentions word part
mentions_negate word part = form word _ (CExp-F.Negate part) (exp.rolls-Negate part)

pub mentions_not : (word : List ℕ) (part : CExp) → exp_mentions word (exp.Not part) ≡ exp_mentions word part
mentions_not word part = form word _ (CExp-F.Not part) (exp.rolls-Not part)

pub mentions_address : (word : List ℕ) (part : CExp) → exp_mentions word (exp.Address part) ≡ exp_mentions word part
mentions_address word part = form word _ (CExp-F.Address part) (exp.rolls-Address part)

pub mentions_binary : (word : List ℕ) (operator : COp) (left : CExp) (right : CExp)
    → exp_mentions word (exp.Binary operator left right) ≡ (exp_mentions word left || exp_mentions word right)
mentions_binary word operator left right = form word _ (CExp-F.Binary operator left right) (exp.rolls-Binary operator left right)

pub mentions_all : (word : List ℕ) (parts : List CExp) → exp_mentions word (exp.All parts) ≡ some_mention word parts
mentions_all word parts = form word _ (CExp-F.All parts) (exp.rolls-All parts)

pub mentions_any : (word : List ℕ) (parts : List CExp) → exp_mentions word (exp.Any parts) ≡ some_mention word parts
mentions_any word parts = form word _ (CExp-F.Any parts) (exp.rolls-Any parts)

pub mentions_choice : (word : List ℕ) (test : CExp) (first : CExp) (second : CExp)
    → exp_mentions word (exp.Choice test first second) ≡ (exp_mentions word test || exp_mentions word first || exp_mentions word second)
mentions_choice word test first second = form word _ (CExp-F.Choice test first second) (exp.rolls-Choice test first second)

pub ruleset exp_forms = (
  common_steps,
  mentions_truth,
  mentions_unsigned,
  mentions_signed,
  mentions_name,
  mentions_pointed,
  mentions_member,
  mentions_element,
  mentions_call,
  mentions_cast,
  mentions_negate,
  mentions_not,
  mentions_address,
  mentions_binary,
  mentions_all,
  mentions_any,
  mentions_choice,
)

statement_form : (word : List ℕ) (s : CStm) (x : CStm-F CStm) → roll-CStm x ≡ s
    → statement_mentions word s ≡ statement_step word (map-CStm CStm Bool (statement_mentions word) x)
statement_form word s x is = ap (statement_mentions word) (sym is) ∙ fold-roll-CStm Bool (statement_step word) x

arms_same : (word : List ℕ) (arms : List (CExp × List CStm)) → tree_arms_mention word arms
    ≡ arms_mention word (map (λ (arm : CExp × List CStm). (arm.0, map (statement_mentions word) arm.1)) arms)
arms_same word [] = refl
arms_same word (arm ∷ arms) = ap (λ b. (exp_mentions word arm.0 || mentions word arm.1) || b) (arms_same word arms)

or_four : (a b c d : Bool) → (a || b || c || d) ≡ (a || (b || (c || d)))
or_four true b c d = refl
or_four false true c d = refl
or_four false false c d = refl

or_three : (a b c : Bool) → (a || b || c) ≡ (a || (b || c))
or_three true b c = refl
or_three false b c = refl

pub statement_comment : (word : List ℕ) (text : List ℕ) → statement_mentions word (stm.Comment text) ≡ false
statement_comment word text = statement_form word _ (CStm-F.Comment text) (stm.rolls-Comment text)

pub statement_declare : (word : List ℕ) (variable : CVariable) → statement_mentions word (stm.Declare variable) ≡ false
statement_declare word variable = statement_form word _ (CStm-F.Declare variable) (stm.rolls-Declare variable)

pub statement_define : (word : List ℕ) (variable : CVariable) (value : CExp) → statement_mentions word (stm.Define variable value) ≡ exp_mentions word value
statement_define word variable value = statement_form word _ (CStm-F.Define variable value) (stm.rolls-Define variable value)

pub statement_assign : (word : List ℕ) (object : CExp) (value : CExp)
    → statement_mentions word (stm.Assign object value) ≡ (exp_mentions word object || exp_mentions word value)
statement_assign word object value = statement_form word _ (CStm-F.Assign object value) (stm.rolls-Assign object value)

pub statement_increment : (word : List ℕ) (object : CExp) → statement_mentions word (stm.Increment object) ≡ exp_mentions word object
statement_increment word object = statement_form word _ (CStm-F.Increment object) (stm.rolls-Increment object)

pub statement_decrement : (word : List ℕ) (object : CExp) → statement_mentions word (stm.Decrement object) ≡ exp_mentions word object
statement_decrement word object = statement_form word _ (CStm-F.Decrement object) (stm.rolls-Decrement object)

pub statement_call : (word : List ℕ) (name : List ℕ) (arguments : List CExp) → statement_mentions word (stm.Call name arguments) ≡ some_mention word arguments
statement_call word name arguments = statement_form word _ (CStm-F.Call name arguments) (stm.rolls-Call name arguments)

pub statement_if : (word : List ℕ) (test : CExp) (body : List CStm) (others : List (CExp × List CStm)) (otherwise : List CStm)
    → statement_mentions word (stm.If test body others otherwise)
    ≡ (exp_mentions word test || (mentions word body || (tree_arms_mention word others || mentions word otherwise)))
statement_if word test body others otherwise = statement_form word _ (CStm-F.If test body others otherwise) (stm.rolls-If test body others otherwise)
    ∙ ap (λ b. exp_mentions word test || mentions word body || b || mentions word otherwise) (sym (arms_same word others))
    ∙ or_four (exp_mentions word test) (mentions word body) (tree_arms_mention word others) (mentions word otherwise)

pub statement_switch : (word : List ℕ) (subject : CExp) (cases : List (CExp × List CStm)) (otherwise : List CStm)
    → statement_mentions word (stm.Switch subject cases otherwise) ≡ (exp_mentions word subject || (tree_arms_mention word cases || mentions word otherwise))
statement_switch word subject cases otherwise = statement_form word _ (CStm-F.Switch subject cases otherwise) (stm.rolls-Switch subject cases otherwise)
    ∙ ap (λ b. exp_mentions word subject || b || mentions word otherwise) (sym (arms_same word cases))
    ∙ or_three (exp_mentions word subject) (tree_arms_mention word cases) (mentions word otherwise)

-- what is left of a choice whose test doesn't have the name
pub if_else : (word : List ℕ) (s : CStm) (test : CExp) (body : List CStm) (others : List (CExp × List CStm)) (otherwise : List CStm) (has : Bool)
    → s ≡ stm.If test body others otherwise → exp_mentions word test ≡ false
    → has ≡ (mentions word body || (tree_arms_mention word others || mentions word otherwise)) → has ≡ statement_mentions word s
if_else word s test body others otherwise has is without rest = rest
    ∙ ap (λ b. b || (mentions word body || (tree_arms_mention word others || mentions word otherwise))) (sym without)
    ∙ sym (ap (statement_mentions word) is ∙ statement_if word test body others otherwise)

pub switch_else : (word : List ℕ) (s : CStm) (subject : CExp) (cases : List (CExp × List CStm)) (otherwise : List CStm) (has : Bool)
    → s ≡ stm.Switch subject cases otherwise → exp_mentions word subject ≡ false
    → has ≡ (tree_arms_mention word cases || mentions word otherwise) → has ≡ statement_mentions word s
switch_else word s subject cases otherwise has is without rest = rest
    ∙ ap (λ b. b || (tree_arms_mention word cases || mentions word otherwise)) (sym without)
    ∙ sym (ap (statement_mentions word) is ∙ statement_switch word subject cases otherwise)

pub statement_for : (word : List ℕ) (count : CCount) (body : List CStm)
    → statement_mentions word (stm.For count body) ≡ (exp_mentions word count.limit || mentions word body)
statement_for word count body = statement_form word _ (CStm-F.For count body) (stm.rolls-For count body)

pub statement_break : (word : List ℕ) → statement_mentions word stm.Break ≡ false
statement_break word = statement_form word _ CStm-F.Break stm.rolls-Break

pub statement_return : (word : List ℕ) (value : Option CExp) → statement_mentions word (stm.Return value) ≡ value_mentions word value
statement_return word value = statement_form word _ (CStm-F.Return value) (stm.rolls-Return value)

pub ruleset statement_forms = (
  exp_forms,
  statement_comment,
  statement_declare,
  statement_define,
  statement_assign,
  statement_increment,
  statement_decrement,
  statement_call,
  statement_if,
  statement_switch,
  statement_for,
  statement_break,
  statement_return,
)
