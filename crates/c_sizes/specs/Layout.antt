-- How types lie in memory, by the usual rule of C compilers: a number of n bytes lies at a multiple of n, or of the greatest
-- alignment where n is above it.
use Rattle.std.specs.Prelude.{ℕ, List, fold, map}
use Rattle.std.specs.Option.{unwrap_or}
use Rattle.c_tree.specs.declared.tree.Width.{Width}
use Rattle.c_tree.specs.declared.tree.Width.TheVariants.{W8, W16, W32, W64}
use Rattle.c_tree.specs.declared.tree.CType.{CType}
use Rattle.c_tree.specs.declared.tree.CType.TheVariants as ctype
use Rattle.c_tree.specs.declared.tree.CMember.{CMember, fold-CMember}
use Rattle.c_tree.specs.declared.tree.CMember.TheOpen.{CMember-F}
use Rattle.c_tree.specs.declared.tree.CItem.{CItem}
use Rattle.c_tree.specs.declared.tree.CItem.TheVariants as item
use Rattle.c_sizes.specs.declared.layout.Layout.{Layout}
use Rattle.c_sizes.specs.Bytes.{same, up_to, plus, times, greatest, padded}
use Rattle.c_sizes.specs.Names.{known, with_name}

-- the types that a file has declared so far
abbrev pub Types : Type 0
Types = List (List ℕ × Layout)

-- what takes no memory
abbrev pub empty : Layout
empty = record { size = same 0; align = same 1 }

abbrev pub number : ℕ → Layout
number bytes = record { size = same bytes; align = up_to bytes }

abbrev pub bytes_of : Width → ℕ
bytes_of W8 = 1
bytes_of W16 = 2
bytes_of W32 = 4
bytes_of W64 = 8

-- A type that isn't declared before takes nothing.
abbrev pub type_layout : Types → CType → Layout
type_layout types ctype.Bool = number 1
type_layout types (ctype.Signed width) = number (bytes_of width)
type_layout types (ctype.Unsigned width) = number (bytes_of width)
type_layout types (ctype.Named name) = unwrap_or (known name types) empty

abbrev pub array : ℕ → Layout → Layout
array count element = record { size = times count element.size; align = element.align }

-- a member behind others of a struct
abbrev pub behind : Layout → Layout → Layout
behind others member = record { size = plus (padded others.size member.align) member.size; align = greatest others.align member.align }

-- a member beside others of a union
abbrev pub beside : Layout → Layout → Layout
beside others member = record { size = greatest others.size member.size; align = greatest others.align member.align }

-- padded at its end, so that another can follow
abbrev pub ended : Layout → Layout
ended parts = record { size = padded parts.size parts.align; align = parts.align }

abbrev pub struct_of : List Layout → Layout
struct_of members = ended (fold behind empty members)

abbrev pub union_of : List Layout → Layout
union_of members = ended (fold beside empty members)

-- one level of a member, with the layouts of its parts
abbrev pub lay_member : Types → CMember-F Layout → Layout
lay_member types (CMember-F.Comment text) = empty
lay_member types (CMember-F.Plain type name) = type_layout types type
lay_member types (CMember-F.Array type name count) = array count (type_layout types type)
lay_member types (CMember-F.Struct members name) = struct_of members
lay_member types (CMember-F.Union members name) = union_of members

abbrev pub member_layout : Types → CMember → Layout
member_layout types = fold-CMember Layout (lay_member types)

abbrev pub struct_layout : Types → List CMember → Layout
struct_layout types members = struct_of (map (member_layout types) members)

-- the types that are declared behind an item
abbrev pub declared : Types → CItem → Types
declared types (item.Alias type name) = with_name types name (type_layout types type)
declared types (item.Struct members name) = with_name types name (struct_layout types members)
declared types (item.Part text) = types
declared types (item.Comment text) = types
declared types (item.Enum constants) = types
declared types (item.Object type name) = types
declared types (item.StructObject members name) = types
declared types (item.Prototype head) = types
declared types (item.Function function) = types
