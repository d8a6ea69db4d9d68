-- Names that are declared again.
use Rattle.std.specs.Prelude.{ℕ, List, [], ◌++◌, take, Bool, ◌||◌, IsTrue}
use Rattle.std.specs.List.{flat_map}
use Rattle.hume_ast.specs.declared.tree.Decl.{Decl}
use Rattle.check_names.specs.Names.{repeats, OfDecl}
use Rattle.check_names.specs.DeclaredNames.{types_of, constructors_of, exceptions_of, functions_of, nodes_of, ports_of, handled_of, given_exceptions}

-- the names of the spaces that all declarations share; constructors and exceptions are in one
pub record Spaces : Type 0 where
  pub types : List (List ℕ)
  pub capitals : List (List ℕ)
  pub functions : List (List ℕ)
  pub nodes : List (List ℕ)

-- the constructors and exceptions that a declaration declares
abbrev pub capitals_of : Decl → List (List ℕ)
capitals_of decl = constructors_of decl ++ exceptions_of decl

-- the names that declarations declare, and those that are there from the start
abbrev pub spaces_in : List (ℕ × Decl) → Spaces
spaces_in decls = record {
  types = flat_map (λ d. types_of d.1) decls;
  capitals = given_exceptions ++ flat_map (λ d. capitals_of d.1) decls;
  functions = flat_map (λ d. functions_of d.1) decls;
  nodes = flat_map (λ d. nodes_of d.1) decls;
}

-- the declaration declares a name that one of these spaces has already, or one twice there
abbrev pub repeats_shared : Spaces → Decl → Bool
repeats_shared spaces decl =
    repeats spaces.types (types_of decl)
    || (repeats spaces.capitals (capitals_of decl)
    || (repeats spaces.functions (functions_of decl)
    || repeats spaces.nodes (nodes_of decl)))

-- a box declares a name twice among its inputs and outputs, or handles an exception twice
abbrev pub repeats_own : Decl → Bool
repeats_own decl = repeats [] (ports_of decl) || repeats [] (handled_of decl)

-- the declaration declares a name that an earlier one of its space has, or one twice
abbrev pub RepeatsName : List (ℕ × Decl) → ℕ → Type 0
RepeatsName decls i = OfDecl decls i (λ decl. IsTrue (repeats_shared (spaces_in (take i decls)) decl || repeats_own decl))
