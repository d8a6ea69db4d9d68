-- How many bytes of static memory a file takes: its objects, each with the structs within it. What a linker leaves free between
-- objects isn't counted.
use Rattle.std.specs.Prelude.{ℕ, Bool, true, false, List, [], ◌∷◌, ◌++◌, fold, if◌then◌else◌}
use Rattle.std.specs.List.{flat_map}
use Rattle.c_tree.specs.declared.tree.CMember.{CMember, out-CMember}
use Rattle.c_tree.specs.declared.tree.CMember.TheOpen.{CMember-F}
use Rattle.c_tree.specs.declared.tree.CItem.{CItem}
use Rattle.c_tree.specs.declared.tree.CItem.TheVariants as item
use Rattle.c_sizes.specs.declared.bytes.Bytes.{Bytes}
use Rattle.c_sizes.specs.declared.memory.Row.{Row}
use Rattle.c_sizes.specs.Bytes.{same, plus}
use Rattle.c_sizes.specs.Layout.{Types, type_layout, struct_layout, declared}

abbrev pub row_of : List ℕ → Bool → Bytes → Row
row_of name inner bytes = record { name = name; inner = inner; bytes = bytes }

abbrev pub struct_row : Types → CMember-F CMember → List Row
struct_row types (CMember-F.Struct members name) = row_of name true (struct_layout types members).size ∷ []
struct_row types (CMember-F.Comment text) = []
struct_row types (CMember-F.Plain type name) = []
struct_row types (CMember-F.Array type name count) = []
struct_row types (CMember-F.Union members name) = []

-- the row of a member, if it is a struct
abbrev pub member_row : Types → CMember → List Row
member_row types member = struct_row types (out-CMember member)

-- the rows of an item: an object, and each member of it that is a struct
abbrev pub item_rows : Types → CItem → List Row
item_rows types (item.Object type name) = row_of name false (type_layout types type).size ∷ []
item_rows types (item.StructObject members name) = row_of name false (struct_layout types members).size ∷ flat_map (member_row types) members
item_rows types (item.Part text) = []
item_rows types (item.Comment text) = []
item_rows types (item.Enum constants) = []
item_rows types (item.Alias type name) = []
item_rows types (item.Struct members name) = []
item_rows types (item.Prototype head) = []
item_rows types (item.Function function) = []

-- the rows of items before which these types are declared
abbrev pub rows_of : Types → List CItem → List Row
rows_of types [] = []
rows_of types (first ∷ others) = item_rows types first ++ rows_of (declared types first) others

abbrev pub memory_rows : List CItem → List Row
memory_rows items = rows_of [] items

abbrev pub with_row : Bytes → Row → Bytes
with_row sum row = if row.inner then sum else plus sum row.bytes

-- the bytes of all objects
abbrev pub together : List Row → Bytes
together rows = fold with_row (same 0) rows
