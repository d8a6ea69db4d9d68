-- What a script keeps of a core.
use Rattle.std.specs.Prelude.{◌≡◌, map}
use Rattle.hume_model.specs.declared.core_tree.Core.{Core}
use Rattle.calculus_laws.specs.Boxes.{without_rules}

-- All is the same but the functions, and the rules of boxes.
pub record HasSameNet (core new : Core) : Type 0 where
  pub types : new.types ≡ core.types
  pub exns : new.exns ≡ core.exns
  pub nodes : map without_rules new.nodes ≡ map without_rules core.nodes
  pub wires : new.wires ≡ core.wires
