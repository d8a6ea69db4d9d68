-- When a program has no wires of a core.
use Rattle.std.specs.Prelude.{ℕ, List}
use Rattle.std.specs.List.{Contains}
use Rattle.hume_model.specs.declared.core_tree.NodeC.{NodeC}
use Rattle.hume_model.specs.declared.core_tree.WireC.{WireC}
use Rattle.check_typing.specs.declared.signatures.Signatures.{Signatures}
use Rattle.check_rules.specs.Declared.{Decls, WireDecl, wires_in}
use Rattle.check_rules.specs.CoreOf.{IsWireOf}

-- one of the wires that are declared has no core
pub record HasWireWithoutCore (text : List ℕ) (signatures : Signatures) (nodes : List NodeC) (decls : Decls) : Type 0 where
  pub declared : WireDecl
  pub among : Contains (wires_in decls) declared
  pub none : (wire : WireC) → IsWireOf text signatures nodes declared wire → ⊥
