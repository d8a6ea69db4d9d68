-- The text of a file: its comment, what it includes, and its declarations. A blank line stands before each part and each function.
use Rattle.std.specs.Prelude.{ℕ, Option, None, Some, List, [], ◌∷◌, ◌++◌, codes, decimal, map}
use Rattle.std.specs.List.{flat_map}
use Rattle.c_tree.specs.declared.tree.CType.{CType}
use Rattle.c_tree.specs.declared.tree.Passing.{Passing}
use Rattle.c_tree.specs.declared.tree.Passing.TheVariants.{Value, Read, Written}
use Rattle.c_tree.specs.declared.tree.CParameter.{CParameter}
use Rattle.c_tree.specs.declared.tree.Linkage.{Linkage}
use Rattle.c_tree.specs.declared.tree.Linkage.TheVariants.{External, Static, StaticInline}
use Rattle.c_tree.specs.declared.tree.CHead.{CHead}
use Rattle.c_tree.specs.declared.tree.CFunction.{CFunction}
use Rattle.c_tree.specs.declared.tree.CMember.{CMember, fold-CMember}
use Rattle.c_tree.specs.declared.tree.CMember.TheOpen.{CMember-F}
use Rattle.c_tree.specs.declared.tree.CConstant.{CConstant}
use Rattle.c_tree.specs.declared.tree.CItem.{CItem}
use Rattle.c_tree.specs.declared.tree.CItem.TheVariants as item
use Rattle.c_tree.specs.declared.tree.CProgram.{CProgram}
use Rattle.c_tree.specs.Words.{Behind, newline, ended, closed, separated, comment_line, type_text}
use Rattle.c_tree.specs.Statements.{block_text, statement_text}

abbrev pub passing_text : Passing → CType → List ℕ
passing_text Value type = type_text type ++ codes " "
passing_text Read type = codes "const " ++ (type_text type ++ codes " *")
passing_text Written type = type_text type ++ codes " *"

abbrev pub parameter_text : CParameter → List ℕ
parameter_text parameter = passing_text parameter.passing parameter.ty ++ parameter.name

abbrev pub parameters_text : List CParameter → List ℕ
parameters_text [] = codes "void"
parameters_text (first ∷ others) = separated (codes ", ") (map parameter_text (first ∷ others))

abbrev pub linkage_text : Linkage → List ℕ
linkage_text External = []
linkage_text Static = codes "static "
linkage_text StaticInline = codes "static inline "

abbrev pub result_text : Option CType → List ℕ
result_text None = codes "void"
result_text (Some type) = type_text type

-- what stands before the parameters
abbrev pub declared_text : CHead → List ℕ
declared_text head = linkage_text head.linkage ++ (result_text head.result ++ (codes " " ++ head.name))

abbrev pub head_text : CHead → List ℕ
head_text head = declared_text head ++ (codes "(" ++ (parameters_text head.parameters ++ codes ")"))

abbrev pub comment_above : Option (List ℕ) → List ℕ
comment_above None = []
comment_above (Some text) = comment_line [] text

abbrev pub function_text : CFunction → List ℕ
function_text function = newline ++ (comment_above function.comment ++ (head_text function.head
    ++ (newline ++ (codes "{" ++ (newline ++ (block_text [] (map statement_text function.body) ++ closed))))))

-- the last line of a struct or a union: the name that it declares
abbrev pub name_line : List ℕ → List ℕ → List ℕ
name_line name margin = margin ++ (codes "} " ++ (name ++ ended))

-- a struct or a union, as the keyword says, and what it declares
abbrev pub aggregate_text : List ℕ → List Behind → List ℕ → List ℕ → List ℕ
aggregate_text keyword members name margin = keyword ++ (codes " {" ++ (newline ++ (block_text margin members ++ name_line name margin)))

abbrev pub object_text : CType → List ℕ → List ℕ
object_text type name = type_text type ++ (codes " " ++ (name ++ ended))

abbrev pub array_text : CType → List ℕ → ℕ → List ℕ
array_text type name count = type_text type ++ (codes " " ++ (name ++ (codes "[" ++ (decimal count ++ (codes "]" ++ ended)))))

-- one level of a member, with the texts of its parts
abbrev pub spell_member : CMember-F Behind → List ℕ → List ℕ
spell_member (CMember-F.Comment text) margin = comment_line margin text
spell_member (CMember-F.Plain type name) margin = margin ++ object_text type name
spell_member (CMember-F.Array type name count) margin = margin ++ array_text type name count
spell_member (CMember-F.Struct members name) margin = margin ++ aggregate_text (codes "struct") members name margin
spell_member (CMember-F.Union members name) margin = margin ++ aggregate_text (codes "union") members name margin

-- the text of a member behind a margin
abbrev pub member_line : CMember → List ℕ → List ℕ
member_line = fold-CMember Behind spell_member

abbrev pub struct_text : List CMember → List ℕ → List ℕ
struct_text members name = aggregate_text (codes "struct") (map member_line members) name []

abbrev pub constant_text : CConstant → List ℕ
constant_text constant = constant.name ++ (codes " = " ++ decimal constant.value)

abbrev pub enum_text : List CConstant → List ℕ
enum_text constants = codes "enum { " ++ (separated (codes ", ") (map constant_text constants) ++ (codes " }" ++ ended))

abbrev pub item_text : CItem → List ℕ
item_text (item.Part text) = newline ++ comment_line [] text
item_text (item.Comment text) = comment_line [] text
item_text (item.Enum constants) = enum_text constants
item_text (item.Alias type name) = codes "typedef " ++ object_text type name
item_text (item.Struct members name) = codes "typedef " ++ struct_text members name
item_text (item.Object type name) = codes "static " ++ object_text type name
item_text (item.StructObject members name) = codes "static " ++ struct_text members name
item_text (item.Prototype head) = head_text head ++ ended
item_text (item.Function function) = function_text function

abbrev pub include_text : List ℕ → List ℕ
include_text header = codes "#include <" ++ (header ++ (codes ">" ++ newline))

abbrev pub program_text : CProgram → List ℕ
program_text program = comment_line [] program.comment ++ (flat_map include_text program.headers ++ flat_map item_text program.items)
