-- Graphs in which names have nodes, behind those of declarations.
use Rattle.std.specs.Prelude.{◌≡◌, ℕ, ◌+◌, ◌<◌, ◌^◌, List, [], ◌∷◌, ◌++◌, map, length, slice_index_or, Some, None}
use Rattle.hume_ast.specs.declared.tree.Decl.{Decl}
use Rattle.check_names.specs.declared.mention_list.NameKind.{NameKind}
use Rattle.check_names.specs.declared.name_nodes.NameNodes.{NameNodes}
use Rattle.check_tables.specs.names.Names.{number_of, with_name}
use Rattle.check_names.specs.Mentions.{mentions_of}
use Rattle.check_names.specs.Leading.{numbers_of, meant}
use Rattle.check_names.specs.inner.Indexed.{IsIndex}

-- each name has a node of its own, the numbers of which go on from `first`, and the row of its node has all numbers beside the name
pub record AreNodes (first : ℕ) (owners : List (List ℕ × ℕ)) (nodes : NameNodes) : Type 0 where
  pub index : IsIndex nodes.index.table nodes.index.owners
  pub few : first + length nodes.rows < 2 ^ 32
  pub inside : (name : List ℕ) (node : ℕ) → number_of name nodes.index.table ≡ Some node → (k : ℕ) × (node ≡ first + k) × (k < length nodes.rows)
  pub named : (k : ℕ) → k < length nodes.rows → (name : List ℕ) × (number_of name nodes.index.table ≡ Some (first + k))
  pub apart : (a b : List ℕ) (node : ℕ) → number_of a nodes.index.table ≡ Some node → number_of b nodes.index.table ≡ Some node → a ≡ b
  pub rows : (name : List ℕ) (k : ℕ) → number_of name nodes.index.table ≡ Some (first + k) → slice_index_or nodes.rows k [] ≡ numbers_of name owners
  pub all : (name : List ℕ) → number_of name nodes.index.table ≡ None → numbers_of name owners ≡ []

-- there is one name more, whose node leads to one declaration
pub record IsOneMore (first : ℕ) (name : List ℕ) (number : ℕ) (old new : NameNodes) : Type 0 where
  pub owners : new.index.owners ≡ old.index.owners ++ (name, first + length old.rows) ∷ []
  pub table : new.index.table ≡ with_name old.index.table name (first + length old.rows)
  pub rows : new.rows ≡ old.rows ++ (number ∷ []) ∷ []
  pub few : first + length new.rows < 2 ^ 32

-- a declaration leads to the nodes of the names of the kind that it mentions, and the node of a name to all its declarations
pub record IsByNames (kind : NameKind) (decls : List (ℕ × Decl)) (owners : List (List ℕ × ℕ)) (graph : List (List ℕ)) : Type 0 where
  pub nodes : NameNodes
  pub are : AreNodes (length decls) owners nodes
  pub is : graph ≡ map (λ d. meant kind nodes.index.owners (mentions_of d.1)) decls ++ nodes.rows
