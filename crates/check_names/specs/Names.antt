-- Names, and declarations by their numbers.
use Rattle.std.specs.Prelude.{◌≡◌, ℕ, List, [], ◌∷◌, ◌++◌, Bool, false, ◌||◌, Some, slice_get}
use Rattle.check_tables.specs.names.Names.{among}
use Rattle.hume_ast.specs.declared.tree.Decl.{Decl}

-- one of the names is among the earlier ones, or among those before it
abbrev pub repeats : List (List ℕ) → List (List ℕ) → Bool
repeats earlier [] = false
repeats earlier (name ∷ names) = among name earlier || repeats (earlier ++ name ∷ []) names

-- what holds of the declaration of that number; a declaration stands beside its place in the source
pub record OfDecl (decls : List (ℕ × Decl)) (i : ℕ) (P : Decl → Type 0) : Type 0 where
  pub decl : ℕ × Decl
  pub at : slice_get decls i ≡ Some decl
  pub holds : P decl.1

-- the elements of all lists, one list after the other
abbrev pub joined : {X : Type 0} → List (List X) → List X
joined [] = []
joined (xs ∷ xss) = xs ++ joined xss
