-- Names that nothing declares.
use Rattle.std.specs.Prelude.{ℕ, List, [], ◌∷◌, ◌++◌, map, Option, Some, None, Bool, true, false, ◌||◌, ◌&&◌, not, IsTrue, if◌then◌else◌}
use Rattle.std.specs.List.{list_any, flat_map}
use Rattle.std.specs.Str.{bytes_eq}
use Rattle.hume_ast.specs.declared.tree.Decl.{Decl}
use Rattle.hume_ast.specs.declared.tree.Decl.TheVariants.{Fun, BoxD, Stream, Wire}
use Rattle.check_names.specs.declared.mention_list.NameKind.{NameKind}
use Rattle.check_names.specs.declared.mention_list.NameKind.TheVariants.{DataType, Constructor, Exception, Function, Unbound}
use Rattle.check_tables.specs.names.Names.{among}
use Rattle.check_names.specs.Names.{OfDecl}
use Rattle.check_names.specs.DeclaredNames.{types_of, constructors_of, exceptions_of, functions_of, given_exceptions}
use Rattle.check_names.specs.Mentions.{Mention, mentions_of}

-- the names that are declared, in any order
pub record Known : Type 0 where
  pub types : List (List ℕ)
  pub constructors : List (List ℕ)
  pub exceptions : List (List ℕ)
  pub functions : List (List ℕ)

-- all names that the declarations declare, with the exceptions that nothing declares
abbrev pub known_in : List (ℕ × Decl) → Known
known_in decls = record {
  types = flat_map (λ d. types_of d.1) decls;
  constructors = flat_map (λ d. constructors_of d.1) decls;
  exceptions = given_exceptions ++ flat_map (λ d. exceptions_of d.1) decls;
  functions = flat_map (λ d. functions_of d.1) decls;
}

-- the name is none of those of its kind; a variable that is mentioned is none in scope
abbrev pub is_unknown : Known → NameKind → List ℕ → Bool
is_unknown known DataType name = not (among name known.types)
is_unknown known Constructor name = not (among name known.constructors)
is_unknown known Exception name = not (among name known.exceptions)
is_unknown known Function name = not (among name known.functions)
is_unknown known Unbound name = true

-- one of the names that are mentioned is unknown
abbrev pub mentions_unknown : Known → List Mention → Bool
mentions_unknown known mentions = list_any (λ mention. is_unknown known mention.0 mention.1) mentions

-- an equation has another name than its signature
abbrev pub names_otherwise : Decl → Bool
names_otherwise (Fun name types equations) = list_any (λ equation. not (bytes_eq equation.0 name)) equations
names_otherwise _ = false

-- the end of a wire: a box and its input or output, or a stream
abbrev pub End : Type 0
End = List ℕ × Option (List ℕ)

-- both name the same input or output, or none
abbrev pub same_port : Option (List ℕ) → Option (List ℕ) → Bool
same_port None None = true
same_port (Some a) (Some b) = bytes_eq a b
same_port _ _ = false

-- two ends are the same
abbrev pub same_end : End → End → Bool
same_end a b = bytes_eq a.0 b.0 && same_port a.1 b.1

-- the end is one of these
abbrev pub is_end : End → List End → Bool
is_end end ends = list_any (same_end end) ends

-- where wires may begin: at outputs of boxes, and at streams that come in
abbrev pub sources_of : Decl → List End
sources_of (BoxD name inputs outputs fair rules handlers) = map (λ output. (name, Some output.0)) outputs
sources_of (Stream name incoming port) = if incoming then (name, None) ∷ [] else []
sources_of _ = []

-- where wires may end: at inputs of boxes, and at streams that go out
abbrev pub targets_of : Decl → List End
targets_of (BoxD name inputs outputs fair rules handlers) = map (λ input. (name, Some input.0)) inputs
targets_of (Stream name incoming port) = if incoming then [] else (name, None) ∷ []
targets_of _ = []

-- a wire's first end is nowhere where a wire may begin, or its second end nowhere where one may end
abbrev pub misses_end : List (ℕ × Decl) → Decl → Bool
misses_end decls (Wire from to depth initial) =
    not (is_end from (flat_map (λ d. sources_of d.1) decls)) || not (is_end to (flat_map (λ d. targets_of d.1) decls))
misses_end decls _ = false

-- the declaration has an unknown name
abbrev pub HasUnknownName : List (ℕ × Decl) → ℕ → Type 0
HasUnknownName decls i =
    OfDecl decls i (λ decl. IsTrue (mentions_unknown (known_in decls) (mentions_of decl) || (names_otherwise decl || misses_end decls decl)))
