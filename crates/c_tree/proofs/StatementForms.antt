-- The text of a statement and of a member, form by form.
use Rattle.std.proofs.Common.{◌≡◌, ℕ, ◌<◌, List, [], ◌∷◌, ◌++◌, length, map, refl, ap, sym, ◌∙◌, arith, append_assoc}
use Rattle.std.specs.Prelude.{Option, codes}
use Rattle.std.proofs.lemmas.Grind.{common_steps}
use Rattle.c_tree.specs.declared.tree.CType.{CType}
use Rattle.c_tree.specs.declared.tree.CExp.{CExp}
use Rattle.c_tree.specs.declared.tree.CVariable.{CVariable}
use Rattle.c_tree.specs.declared.tree.CCount.{CCount}
use Rattle.c_tree.specs.declared.tree.CStm.{CStm, roll-CStm, map-CStm, fold-roll-CStm}
use Rattle.c_tree.specs.declared.tree.CStm.TheOpen.{CStm-F}
use Rattle.c_tree.specs.declared.tree.CStm.TheVariants as stm
use Rattle.c_tree.specs.declared.tree.CMember.{CMember, roll-CMember, map-CMember, fold-roll-CMember}
use Rattle.c_tree.specs.declared.tree.CMember.TheOpen.{CMember-F}
use Rattle.c_tree.specs.declared.tree.CMember.TheVariants as member
use Rattle.c_tree.specs.Words.{Behind, comment_line, ended, newline}
use Rattle.c_tree.specs.Statements.{assign_text, block_text, call_line, declare_text, define_text, else_text, for_text, if_text, return_text}
use Rattle.c_tree.specs.Statements.{spell_statement, statement_text, step_text, switch_text}
use Rattle.c_tree.specs.Program.{aggregate_text, array_text, member_line, object_text, spell_member}
use Rattle.c_tree.specs.inner.Arms.{written_arm}

statement_form : (s : CStm) (x : CStm-F CStm) (margin : List ℕ) → roll-CStm x ≡ s
    → statement_text s margin ≡ spell_statement (map-CStm CStm Behind statement_text x) margin
statement_form s x margin is = ap (λ d. statement_text d margin) (sym is) ∙ ap (λ (f : Behind). f margin) (fold-roll-CStm Behind spell_statement x)

member_form : (m : CMember) (x : CMember-F CMember) (margin : List ℕ) → roll-CMember x ≡ m
    → member_line m margin ≡ spell_member (map-CMember CMember Behind member_line x) margin
member_form m x margin is = ap (λ d. member_line d margin) (sym is) ∙ ap (λ (f : Behind). f margin) (fold-roll-CMember Behind spell_member x)

pub comment_lines : (text : List ℕ) (margin : List ℕ)
    → statement_text (stm.Comment text) margin ≡ comment_line margin text
comment_lines text margin = statement_form _ (CStm-F.Comment text) margin (stm.rolls-Comment text)

pub declare_lines : (variable : CVariable) (margin : List ℕ)
    → statement_text (stm.Declare variable) margin ≡ declare_text variable margin
declare_lines variable margin = statement_form _ (CStm-F.Declare variable) margin (stm.rolls-Declare variable)

pub define_lines : (variable : CVariable) (value : CExp) (margin : List ℕ)
    → statement_text (stm.Define variable value) margin ≡ define_text variable value margin
define_lines variable value margin = statement_form _ (CStm-F.Define variable value) margin (stm.rolls-Define variable value)

pub assign_lines : (object value : CExp) (margin : List ℕ)
    → statement_text (stm.Assign object value) margin ≡ assign_text object value margin
assign_lines object value margin = statement_form _ (CStm-F.Assign object value) margin (stm.rolls-Assign object value)

pub increment_lines : (object : CExp) (margin : List ℕ)
    → statement_text (stm.Increment object) margin ≡ step_text (codes "++") object margin
increment_lines object margin = statement_form _ (CStm-F.Increment object) margin (stm.rolls-Increment object)

pub decrement_lines : (object : CExp) (margin : List ℕ)
    → statement_text (stm.Decrement object) margin ≡ step_text (codes "--") object margin
decrement_lines object margin = statement_form _ (CStm-F.Decrement object) margin (stm.rolls-Decrement object)

pub call_lines : (name : List ℕ) (arguments : List CExp) (margin : List ℕ)
    → statement_text (stm.Call name arguments) margin ≡ call_line name arguments margin
call_lines name arguments margin = statement_form _ (CStm-F.Call name arguments) margin (stm.rolls-Call name arguments)

pub if_lines : (test : CExp) (body : List CStm) (others : List (CExp × List CStm)) (otherwise : List CStm) (margin : List ℕ)
    → statement_text (stm.If test body others otherwise) margin
    ≡ if_text test (map statement_text body) (map written_arm others) (map statement_text otherwise) margin
if_lines test body others otherwise margin = statement_form _ (CStm-F.If test body others otherwise) margin (stm.rolls-If test body others otherwise)

pub switch_lines : (subject : CExp) (cases : List (CExp × List CStm)) (otherwise : List CStm) (margin : List ℕ)
    → statement_text (stm.Switch subject cases otherwise) margin ≡ switch_text subject (map written_arm cases) (map statement_text otherwise) margin
switch_lines subject cases otherwise margin = statement_form _ (CStm-F.Switch subject cases otherwise) margin (stm.rolls-Switch subject cases otherwise)

pub for_lines : (count : CCount) (body : List CStm) (margin : List ℕ)
    → statement_text (stm.For count body) margin ≡ for_text count (map statement_text body) margin
for_lines count body margin = statement_form _ (CStm-F.For count body) margin (stm.rolls-For count body)

pub return_lines : (value : Option CExp) (margin : List ℕ)
    → statement_text (stm.Return value) margin ≡ return_text value margin
return_lines value margin = statement_form _ (CStm-F.Return value) margin (stm.rolls-Return value)

pub break_lines : (margin : List ℕ) → statement_text stm.Break margin ≡ margin ++ (codes "break" ++ ended)
break_lines margin = statement_form _ CStm-F.Break margin stm.rolls-Break

-- an `else` of one statement or more
pub some_else : (margin : List ℕ) (body : List CStm) → 0 < length body
    → else_text margin (map statement_text body) ≡ margin ++ (codes "} else {" ++ (newline ++ block_text margin (map statement_text body)))
some_else margin [] h = absurd (omega arith)
some_else margin (first ∷ others) h = refl

pub comment_member : (text : List ℕ) (margin : List ℕ)
    → member_line (member.Comment text) margin ≡ comment_line margin text
comment_member text margin = member_form _ (CMember-F.Comment text) margin (member.rolls-Comment text)

pub plain_member : (type : CType) (name : List ℕ) (margin : List ℕ)
    → member_line (member.Plain type name) margin ≡ margin ++ object_text type name
plain_member type name margin = member_form _ (CMember-F.Plain type name) margin (member.rolls-Plain type name)

pub array_member : (type : CType) (name : List ℕ) (count : ℕ) (margin : List ℕ)
    → member_line (member.Array type name count) margin ≡ margin ++ array_text type name count
array_member type name count margin = member_form _ (CMember-F.Array type name count) margin (member.rolls-Array type name count)

pub struct_member : (members : List CMember) (name : List ℕ) (margin : List ℕ)
    → member_line (member.Struct members name) margin ≡ margin ++ aggregate_text (codes "struct") (map member_line members) name margin
struct_member members name margin = member_form _ (CMember-F.Struct members name) margin (member.rolls-Struct members name)

pub union_member : (members : List CMember) (name : List ℕ) (margin : List ℕ)
    → member_line (member.Union members name) margin ≡ margin ++ aggregate_text (codes "union") (map member_line members) name margin
union_member members name margin = member_form _ (CMember-F.Union members name) margin (member.rolls-Union members name)

pub ruleset statement_forms = (
  common_steps,
  append_assoc,
  break_lines,
  comment_lines,
  declare_lines,
  define_lines,
  assign_lines,
  increment_lines,
  decrement_lines,
  call_lines,
  if_lines,
  switch_lines,
  for_lines,
  return_lines,
)

pub ruleset else_steps = (common_steps, append_assoc, some_else)

pub ruleset member_forms = (common_steps, append_assoc, comment_member, plain_member, array_member, struct_member, union_member)
