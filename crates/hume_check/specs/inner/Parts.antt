-- The parts of a core that stand on the signatures of its program.
use Rattle.std.specs.Prelude.{ℕ, List}
use Rattle.hume_model.specs.declared.core_tree.NodeC.{NodeC}
use Rattle.check_typing.specs.Declarations.{InPlaces}
use Rattle.check_typing.specs.declared.signatures.Signatures.{Signatures}
use Rattle.check_rules.specs.Declared.{Decls, function_of, in_order, Numbered, nodes_in, wires_in}
use Rattle.check_rules.specs.CoreOf.{IsFunctionOf, IsNodeOf, IsWireOf}
use Rattle.hume_check.specs.declared.assembly.Parts.{Parts}

-- the boxes and streams in the order of their declarations
abbrev pub AreNodes : List ℕ → Signatures → Decls → List NodeC → Type 0
AreNodes text signatures decls nodes = InPlaces (λ (d : Numbered) node. IsNodeOf text signatures d d.decl node) (nodes_in decls) nodes

-- functions in the order of their numbers, nodes and wires in that of their declarations
pub record AreParts (text : List ℕ) (decls : Decls) (order : List ℕ) (signatures : Signatures) (parts : Parts) : Type 0 where
  pub funs : InPlaces (IsFunctionOf text signatures) (in_order function_of order decls) parts.funs
  pub nodes : AreNodes text signatures decls parts.nodes
  pub wires : InPlaces (IsWireOf text signatures parts.nodes) (wires_in decls) parts.wires
