-- The trees of a core, of those of its declarations.
use Rattle.std.specs.Prelude.{◌≡◌, ℕ, ◌<◌, List, length, map, Option, Some, None, slice_get, slice_index_or}
use Rattle.std.specs.List.{filter_map}
use Rattle.typed_core.specs.declared.typed_tree.TypedEquation.{TypedEquation}
use Rattle.typed_core.specs.declared.typed_tree.TypedDeclaration.{TypedDeclaration}
use Rattle.typed_core.specs.declared.typed_tree.TypedDeclaration.TheVariants.{Equations, Rules, NoTrees}
use Rattle.check_typing.specs.Partial.{given}
use Rattle.check_typing.specs.declared.signatures.Signatures.{Signatures}
use Rattle.check_rules.specs.Declared.{Decls}
use Rattle.typed_core.specs.declared.trees.BoxTrees.{BoxTrees}
use Rattle.typed_core.specs.declared.trees.Trees.{Trees}
use Rattle.hume_check.specs.inner.Trees.{HaveTrees}

-- no number stands twice in the list
abbrev pub HasNoneTwice : List ℕ → Type 0
HasNoneTwice numbers = (j k : ℕ) → j < k → k < length numbers → slice_index_or numbers j 0 ≡ slice_index_or numbers k 0 → ⊥

-- what the slot of the number holds, if there is one and it holds something
abbrev pub slot_at : {A : Type 0} → List (Option A) → ℕ → Option A
slot_at slots number = given (slice_get slots number) (λ slot. slot)

-- the trees of equations, if the declaration is a function's
abbrev pub equations_of : TypedDeclaration → Option (List TypedEquation)
equations_of (Equations equations) = Some equations
equations_of (Rules rules handlers) = None
equations_of NoTrees = None

-- the trees of rules and handlers, if it is a box's
abbrev pub box_trees_of : TypedDeclaration → Option BoxTrees
box_trees_of (Equations equations) = None
box_trees_of (Rules rules handlers) = Some (record { rules = rules; handlers = handlers })
box_trees_of NoTrees = None

-- those of the functions in the order of these numbers, and those of the boxes in the order of their declarations
abbrev pub trees_in : List ℕ → List TypedDeclaration → Trees
trees_in order declared = record {
  functions = filter_map (slot_at (map equations_of declared)) order;
  boxes = filter_map box_trees_of declared;
}

-- the trees are those of the declarations, the functions in this order
pub record AreInOrder (signatures : Signatures) (decls : Decls) (order : List ℕ) (trees : Trees) : Type 0 where
  pub declared : List TypedDeclaration
  pub have : HaveTrees signatures decls declared
  pub are : trees ≡ trees_in order declared
