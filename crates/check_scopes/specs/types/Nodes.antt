-- What the numbers of types stand for.
use Rattle.std.specs.Prelude.{◌≡◌, ℕ, ◌<◌, ◌≤◌, List, [], ◌∷◌, ◌++◌, map, length, Some, slice_get, slice_index_or}
use Rattle.hume_base.specs.declared.types.Ty.{Ty, roll-Ty, Bool as BoolTy}
use Rattle.hume_base.specs.declared.types.Ty.TheOpen.{Ty-F}
use Rattle.check_scopes.specs.declared.types.node.Node.{Node}
use Rattle.check_scopes.specs.declared.types.node.Node.TheVariants as of

-- the type of a number
abbrev pub type_at : List Ty → ℕ → Ty
type_at tys n = slice_index_or tys n BoolTy

-- one level of a type, with its parts over the types of the table
abbrev pub level_of : List Ty → Node → Ty-F Ty
level_of tys of.Bool = Ty-F.Bool
level_of tys of.Char = Ty-F.Char
level_of tys (of.Int bits) = Ty-F.Int bits
level_of tys (of.Nat bits) = Ty-F.Nat bits
level_of tys (of.Tuple parts) = Ty-F.Tuple (map (type_at tys) parts.items)
level_of tys (of.Vector count item) = Ty-F.Vector count (type_at tys item)
level_of tys (of.Named number) = Ty-F.Named number

abbrev pub ty_of : List Ty → Node → Ty
ty_of tys node = roll-Ty (level_of tys node)

-- each next node stands for a type over the types before it
unfoldable pub built : List Ty → List Node → List Ty
built tys [] = tys
built tys (node ∷ nodes) = built (tys ++ ty_of tys node ∷ []) nodes

-- the types that nodes stand for
abbrev pub types_of : List Node → List Ty
types_of nodes = built [] nodes

-- the numbers are below the bound
abbrev pub all_below : ℕ → List ℕ → Type 0
all_below bound [] = Unit {0}
all_below bound (n ∷ ns) = (n < bound) × all_below bound ns

-- the numbers of the node's parts are below the bound
abbrev pub IsWithin : ℕ → Node → Type 0
IsWithin bound (of.Tuple parts) = all_below bound parts.items
IsWithin bound (of.Vector count item) = item < bound
IsWithin bound _ = Unit {0}

-- numbers that were given still stand for the same types
abbrev pub Grows : List Ty → List Ty → Type 0
Grows old new = (length old ≤ length new) × ((n : ℕ) → n < length old → type_at new n ≡ type_at old n)

-- the types of the nodes, no two of them the same
pub record IsTable (nodes : List Node) (tys : List Ty) : Type 0 where
  pub long : length tys ≡ length nodes
  pub each : (n : ℕ) (node : Node) → slice_get nodes n ≡ Some node → type_at tys n ≡ ty_of tys node
  pub within : (n : ℕ) (node : Node) → slice_get nodes n ≡ Some node → IsWithin (length tys) node
  pub distinct : (m n : ℕ) → m < length tys → n < length tys → type_at tys m ≡ type_at tys n → m ≡ n
