-- Functions that call themselves, and data types that hold themselves, directly or through others.
use Rattle.std.specs.Prelude.{ℕ, suc, List, [], ◌∷◌, ◌++◌, map, Bool, true, false, if◌then◌else◌}
use Rattle.std.specs.List.{flat_map}
use Rattle.std.specs.Str.{bytes_eq}
use Rattle.hume_ast.specs.declared.tree.Decl.{Decl}
use Rattle.check_tables.specs.graph.Cycles.{InCycle}
use Rattle.check_names.specs.declared.mention_list.NameKind.{NameKind}
use Rattle.check_names.specs.declared.mention_list.NameKind.TheVariants.{DataType, Constructor, Exception, Function, Unbound}
use Rattle.check_names.specs.DeclaredNames.{types_of, constructors_of, exceptions_of, functions_of}
use Rattle.check_names.specs.Mentions.{Mention, mentions_of}

-- the names of a kind that a declaration declares
abbrev pub names_of_kind : NameKind → Decl → List (List ℕ)
names_of_kind DataType decl = types_of decl
names_of_kind Constructor decl = constructors_of decl
names_of_kind Exception decl = exceptions_of decl
names_of_kind Function decl = functions_of decl
names_of_kind Unbound decl = []

-- the names of a kind with the numbers of their declarations, the first of which has number n
abbrev pub owners_from : NameKind → ℕ → List (ℕ × Decl) → List (List ℕ × ℕ)
owners_from kind n [] = []
owners_from kind n (d ∷ decls) = map (λ name. (name, n)) (names_of_kind kind d.1) ++ owners_from kind (suc n) decls

-- the numbers beside a name
abbrev pub numbers_of : List ℕ → List (List ℕ × ℕ) → List ℕ
numbers_of name [] = []
numbers_of name (owner ∷ owners) = if bytes_eq name owner.0 then owner.1 ∷ numbers_of name owners else numbers_of name owners

-- both are the same kind of name
abbrev pub same_kind : NameKind → NameKind → Bool
same_kind DataType DataType = true
same_kind Constructor Constructor = true
same_kind Exception Exception = true
same_kind Function Function = true
same_kind Unbound Unbound = true
same_kind _ _ = false

-- the declarations of the names that these mentions of a kind mean
abbrev pub meant : NameKind → List (List ℕ × ℕ) → List Mention → List ℕ
meant kind owners mentions = flat_map (λ mention. if same_kind mention.0 kind then numbers_of mention.1 owners else []) mentions

-- each declaration leads to the declarations of the names of that kind that it mentions; of a name that is declared again, to each
abbrev pub graph_of : NameKind → List (ℕ × Decl) → List (List ℕ)
graph_of kind decls = map (λ d. meant kind (owners_from kind 0 decls) (mentions_of d.1)) decls

-- the function is in a cycle of calls
abbrev pub CallsItself : List (ℕ × Decl) → ℕ → Type 0
CallsItself decls = InCycle (graph_of Function decls)

-- the data type holds itself, directly or through others
abbrev pub HoldsItself : List (ℕ × Decl) → ℕ → Type 0
HoldsItself decls = InCycle (graph_of DataType decls)
