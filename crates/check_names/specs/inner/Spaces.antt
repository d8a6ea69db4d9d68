-- The names of the spaces, as tables have them.
use Rattle.std.specs.Prelude.{◌≡◌, ℕ, List, ◌++◌}
use Rattle.hume_ast.specs.declared.tree.Decl.{Decl}
use Rattle.check_names.specs.declared.repeated.Tables.{Tables}
use Rattle.check_tables.specs.names.Names.{among}
use Rattle.check_tables.specs.names.Names.{names_of}
use Rattle.check_names.specs.DeclaredNames.{types_of, functions_of, nodes_of}
use Rattle.check_names.specs.Repeated.{Spaces, capitals_of}

-- the same names are in both lists
abbrev pub SameNames : List (List ℕ) → List (List ℕ) → Type 0
SameNames xs ys = (name : List ℕ) → among name xs ≡ among name ys

pub record SameSpaces (a b : Spaces) : Type 0 where
  pub types : SameNames a.types b.types
  pub capitals : SameNames a.capitals b.capitals
  pub functions : SameNames a.functions b.functions
  pub nodes : SameNames a.nodes b.nodes

abbrev pub spaces_of : Tables → Spaces
spaces_of tables = record {
  types = names_of tables.types;
  capitals = names_of tables.capitals;
  functions = names_of tables.functions;
  nodes = names_of tables.nodes;
}

-- with the names that a declaration declares
abbrev pub with_declared : Spaces → Decl → Spaces
with_declared spaces decl = record {
  types = spaces.types ++ types_of decl;
  capitals = spaces.capitals ++ capitals_of decl;
  functions = spaces.functions ++ functions_of decl;
  nodes = spaces.nodes ++ nodes_of decl;
}
