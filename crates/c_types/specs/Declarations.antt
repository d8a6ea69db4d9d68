-- The declarations of the types of a C file.
use Rattle.std.specs.Prelude.{ℕ, ◌+◌, nat_lt, List, [], ◌∷◌, ◌++◌, length, codes, if◌then◌else◌}
use Rattle.std.specs.List.{flat_map}
use Rattle.hume_base.specs.declared.types.Ty.{Ty, out-Ty}
use Rattle.hume_base.specs.declared.types.Ty.TheOpen.{Ty-F}
use Rattle.hume_base.specs.declared.types.SumDef.{SumDef}
use Rattle.hume_base.specs.declared.types.ConDef.{ConDef}
use Rattle.c_tree.specs.declared.tree.CType.{CType}
use Rattle.c_tree.specs.declared.tree.CType.TheVariants as type
use Rattle.c_tree.specs.declared.tree.CMember.{CMember}
use Rattle.c_tree.specs.declared.tree.CMember.TheVariants as member
use Rattle.c_tree.specs.declared.tree.CConstant.{CConstant}
use Rattle.c_tree.specs.declared.tree.CItem.{CItem}
use Rattle.c_tree.specs.declared.tree.CItem.TheVariants as item
use Rattle.c_forms.specs.Expressions.{numbered}
use Rattle.c_names.specs.declared.names.Names.{Names}
use Rattle.c_names.specs.Names.{inner}
use Rattle.c_types.specs.Shapes.{Form, Enumeration, Record, Tagged, form_of, has_some, tag_width}
use Rattle.c_types.specs.Gathered.{Gathered, c_type}

-- the members of fields, the first of which is named by that place
abbrev pub fields_from : Gathered → ℕ → List Ty → List CMember
fields_from all place [] = []
fields_from all place (first ∷ others) = member.Plain (c_type all first) (numbered (codes "f") place) ∷ fields_from all (place + 1) others

-- the members of fields, from `f0` on
abbrev pub fields : Gathered → List Ty → List CMember
fields all tys = fields_from all 0 tys

-- the constant of a constructor
abbrev pub constant : Names → ℕ → ConDef → CConstant
constant names place con = record { name = inner names (codes "C_") con.name; value = place }

-- the constants of constructors from a place on, of those places that an `int` of 16 bits holds
abbrev pub constants_from : Names → ℕ → List ConDef → List CConstant
constants_from names place [] = []
constants_from names place (con ∷ cons) =
    if nat_lt place 32768 then constant names place con ∷ constants_from names (place + 1) cons else constants_from names (place + 1) cons

-- the constants of the constructors of a data type
abbrev pub constants : Names → SumDef → CItem
constants names sum = item.Enum (constants_from names 0 sum.cons)

-- the type of the tags of a data type
abbrev pub tag_type : SumDef → CType
tag_type sum = type.Unsigned (tag_width (length sum.cons))

-- the fields of the first constructor
abbrev pub first_fields : Gathered → List ConDef → List CMember
first_fields all [] = []
first_fields all (con ∷ cons) = fields all con.fields

-- the fields of a constructor as one member, if it has some
abbrev pub constructor_members : Gathered → ConDef → List CMember
constructor_members all con = if has_some con.fields then member.Struct (fields all con.fields) (codes "c_" ++ con.name) ∷ [] else []

-- a tag, and a union of the fields of each constructor
abbrev pub tagged_members : Gathered → SumDef → List CMember
tagged_members all sum =
    member.Plain (tag_type sum) (codes "tag") ∷ member.Union (flat_map (constructor_members all) sum.cons) (codes "u") ∷ []

-- the declarations of a data type of that form and name
abbrev pub data_items : Gathered → List ℕ → Form → List CItem
data_items all name (Enumeration sum) = item.Alias (tag_type sum) name ∷ constants all.names sum ∷ []
data_items all name (Record sum) = item.Struct (first_fields all sum.cons) name ∷ []
data_items all name (Tagged sum) = constants all.names sum ∷ item.Struct (tagged_members all sum) name ∷ []
data_items all name _ = []

-- the declarations of a type of that name: a tuple is a struct of its parts, a vector one of an array
abbrev pub items_in : Gathered → Ty → List ℕ → Ty-F Ty → List CItem
items_in all ty name (Ty-F.Tuple parts) = item.Struct (fields all parts) name ∷ []
items_in all ty name (Ty-F.Vector count element) = item.Struct (member.Array (c_type all element) (codes "e") count ∷ []) name ∷ []
items_in all ty name (Ty-F.Named number) = data_items all name (form_of all.types ty)
items_in all ty name _ = []

-- the declarations of a type by its type of C: only one with a name of its own has some
abbrev pub items_named : Gathered → Ty → CType → List CItem
items_named all ty (type.Named name) = items_in all ty name (out-Ty ty)
items_named all ty _ = []

-- the declarations of a type
abbrev pub items_of : Gathered → Ty → List CItem
items_of all ty = items_named all ty (c_type all ty)

-- the declarations of the types of a file
abbrev pub items : Gathered → List CItem
items all = flat_map (items_of all) all.tys
