-- What an elaboration knows: the variables in scope, a stack of types, and the types that are kept.
use Rattle.std.specs.Prelude.{ℕ, List, [], ◌∷◌, Option, Some, None, length}
use Rattle.hume_base.specs.declared.types.Ty.{Ty, Bool as BoolTy}
use Rattle.hume_base.specs.declared.types.Ty.TheOpen.{Ty-F}
use Rattle.check_scopes.specs.declared.types.shape.Shape.{Shape}
use Rattle.check_scopes.specs.declared.types.shape.Shape.TheVariants as shape
use Rattle.check_scopes.specs.types.Nodes.{type_at}

-- the variables, outermost first, with their types; the stack, its last type first; the types kept
abbrev pub Known : Type 0
Known = List (List ℕ × Ty) × List Ty × List Ty

-- the last type of a stack, and the stack below it
abbrev pub top : List Ty → Ty
top [] = BoolTy
top (ty ∷ tys) = ty

abbrev pub below : List Ty → List Ty
below [] = []
below (ty ∷ tys) = tys

-- what stands beside the name of the last variable
abbrev pub last_of : {A : Type 0} → List (List ℕ × A) → Option A
last_of [] = None
last_of (variable ∷ []) = Some variable.1
last_of (variable ∷ next ∷ variables) = last_of (next ∷ variables)

-- the type of the last variable; `bool` where there is none
abbrev pub type_or_bool : Option Ty → Ty
type_or_bool None = BoolTy
type_or_bool (Some ty) = ty

abbrev pub last_type : List (List ℕ × Ty) → Ty
last_type variables = type_or_bool (last_of variables)

-- with the type of the variable that was found on the stack
abbrev pub with_found : Option (ℕ × Ty) → Known → Option ℕ × Known
with_found None known = (None, known)
with_found (Some found) known = (Some found.0, (known.0, found.1 ∷ known.1, known.2))

-- what is seen of a type without its parts
abbrev pub shape_of : Ty-F Ty → Shape
shape_of Ty-F.Bool = shape.Bool
shape_of Ty-F.Char = shape.Char
shape_of (Ty-F.Int bits) = shape.Int bits
shape_of (Ty-F.Nat bits) = shape.Nat bits
shape_of (Ty-F.Tuple parts) = shape.Tuple (length parts)
shape_of (Ty-F.Vector count item) = shape.Vector count
shape_of (Ty-F.Named number) = shape.Named number

-- a part of a tuple
abbrev pub part_at : ℕ → Ty-F Ty → Ty
part_at at (Ty-F.Tuple parts) = type_at parts at
part_at at _ = BoolTy

-- the elements of a vector
abbrev pub item_of : Ty-F Ty → Ty
item_of (Ty-F.Vector count item) = item
item_of _ = BoolTy
