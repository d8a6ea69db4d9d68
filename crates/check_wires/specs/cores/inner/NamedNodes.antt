-- Nodes with the numbers of their names.
use Rattle.std.specs.Prelude.{◌≡◌, ℕ, ◌<◌, ◌^◌, List, length}
use Rattle.hume_model.specs.declared.core_tree.NodeC.{NodeC}
use Rattle.check_scopes.specs.signatures.inner.Tables.{table_of}
use Rattle.check_rules.specs.CoreOf.{node_name}

-- each name has the number of the first node of it, and numbers have 32 bits
pub record AreNamed (nodes : List NodeC) (names : List (List ℕ × ℕ)) : Type 0 where
  pub names_are : names ≡ table_of node_name nodes
  pub few : length nodes < 2 ^ 32
