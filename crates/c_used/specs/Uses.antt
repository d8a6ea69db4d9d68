-- Which names are used by what stands in a file, in the order in which they are written. A name of a member isn't used, nor is the name that
-- a declaration declares.
use Rattle.std.specs.Prelude.{ℕ, Option, None, Some, List, [], ◌∷◌, ◌++◌, map}
use Rattle.std.specs.List.{flat_map}
use Rattle.c_tree.specs.declared.tree.CType.{CType}
use Rattle.c_tree.specs.declared.tree.CType.TheVariants as ctype
use Rattle.c_tree.specs.declared.tree.CExp.{CExp, fold-CExp}
use Rattle.c_tree.specs.declared.tree.CExp.TheOpen.{CExp-F}
use Rattle.c_tree.specs.declared.tree.CStm.{CStm, fold-CStm}
use Rattle.c_tree.specs.declared.tree.CStm.TheOpen.{CStm-F}
use Rattle.c_tree.specs.declared.tree.CMember.{CMember, fold-CMember}
use Rattle.c_tree.specs.declared.tree.CMember.TheOpen.{CMember-F}
use Rattle.c_tree.specs.declared.tree.CParameter.{CParameter}
use Rattle.c_tree.specs.declared.tree.CHead.{CHead}
use Rattle.c_tree.specs.declared.tree.CItem.{CItem}
use Rattle.c_tree.specs.declared.tree.CItem.TheVariants as item

abbrev pub Name : Type 0
Name = List ℕ

-- the names of all parts
abbrev pub joined : List (List Name) → List Name
joined = flat_map (λ names. names)

abbrev pub type_uses : CType → List Name
type_uses (ctype.Named name) = name ∷ []
type_uses _ = []

-- one level of an expression, with the names that its parts use
abbrev pub exp_step : CExp-F (List Name) → List Name
exp_step (CExp-F.Truth holds) = []
exp_step (CExp-F.Unsigned width amount) = []
exp_step (CExp-F.Signed width negative amount) = []
exp_step (CExp-F.Name name) = name ∷ []
exp_step (CExp-F.Pointed name) = name ∷ []
exp_step (CExp-F.Member object name) = object
exp_step (CExp-F.Element array index) = array ++ index
exp_step (CExp-F.Call name arguments) = name ∷ joined arguments
exp_step (CExp-F.Cast type part) = type_uses type ++ part
exp_step (CExp-F.Negate part) = part
exp_step (CExp-F.Not part) = part
exp_step (CExp-F.Address part) = part
exp_step (CExp-F.Binary operator left right) = left ++ right
exp_step (CExp-F.All parts) = joined parts
exp_step (CExp-F.Any parts) = joined parts
exp_step (CExp-F.Choice test first second) = test ++ (first ++ second)

abbrev pub exp_uses : CExp → List Name
exp_uses = fold-CExp (List Name) exp_step

abbrev pub exps_use : List CExp → List Name
exps_use parts = joined (map exp_uses parts)

abbrev pub value_uses : Option CExp → List Name
value_uses None = []
value_uses (Some value) = exp_uses value

-- a test or a constant, with the names that its statements use
abbrev pub arm_uses : (CExp × List (List Name)) → List Name
arm_uses arm = exp_uses arm.0 ++ joined arm.1

-- one level of a statement, with the names that its parts use
abbrev pub statement_step : CStm-F (List Name) → List Name
statement_step (CStm-F.Comment text) = []
statement_step (CStm-F.Declare variable) = type_uses variable.ty
statement_step (CStm-F.Define variable value) = type_uses variable.ty ++ exp_uses value
statement_step (CStm-F.Assign object value) = exp_uses object ++ exp_uses value
statement_step (CStm-F.Increment object) = exp_uses object
statement_step (CStm-F.Decrement object) = exp_uses object
statement_step (CStm-F.Call name arguments) = name ∷ exps_use arguments
statement_step (CStm-F.If test body others otherwise) = exp_uses test ++ (joined body ++ (flat_map arm_uses others ++ joined otherwise))
statement_step (CStm-F.Switch subject cases otherwise) = exp_uses subject ++ (flat_map arm_uses cases ++ joined otherwise)
statement_step (CStm-F.For count body) = type_uses count.ty ++ (exp_uses count.limit ++ joined body)
statement_step CStm-F.Break = []
statement_step (CStm-F.Return value) = value_uses value

abbrev pub statement_uses : CStm → List Name
statement_uses = fold-CStm (List Name) statement_step

abbrev pub statements_use : List CStm → List Name
statements_use statements = joined (map statement_uses statements)

-- one level of a member, with the names that its parts use
abbrev pub member_step : CMember-F (List Name) → List Name
member_step (CMember-F.Comment text) = []
member_step (CMember-F.Plain type name) = type_uses type
member_step (CMember-F.Array type name count) = type_uses type
member_step (CMember-F.Struct members name) = joined members
member_step (CMember-F.Union members name) = joined members

abbrev pub member_uses : CMember → List Name
member_uses = fold-CMember (List Name) member_step

abbrev pub members_use : List CMember → List Name
members_use members = joined (map member_uses members)

abbrev pub result_uses : Option CType → List Name
result_uses None = []
result_uses (Some type) = type_uses type

abbrev pub parameters_use : List CParameter → List Name
parameters_use parameters = flat_map (λ parameter. type_uses parameter.ty) parameters

abbrev pub head_uses : CHead → List Name
head_uses head = result_uses head.result ++ parameters_use head.parameters

abbrev pub item_uses : CItem → List Name
item_uses (item.Part text) = []
item_uses (item.Comment text) = []
item_uses (item.Enum constants) = []
item_uses (item.Alias type name) = type_uses type
item_uses (item.Struct members name) = members_use members
item_uses (item.Object type name) = type_uses type
item_uses (item.StructObject members name) = members_use members
item_uses (item.Prototype head) = head_uses head
item_uses (item.Function function) = head_uses function.head ++ statements_use function.body
