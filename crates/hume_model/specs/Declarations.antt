-- Where the nodes and wires of a core are declared, and which of the rules that they break is told.
use Rattle.std.specs.Prelude.{◌≡◌, ℕ, Some, slice_get}
use Rattle.hume_base.specs.declared.finding.Finding.{Finding}
use Rattle.hume_base.specs.declared.rule.Refusal.{Refusal}
use Rattle.hume_base.specs.Least.{IsLeast}
use Rattle.hume_model.specs.declared.core_tree.NodeC.{NodeC}
use Rattle.hume_model.specs.declared.core_tree.NodeC.TheVariants.{Rules, From, To}
use Rattle.hume_model.specs.declared.core_tree.WireC.{WireC}
use Rattle.hume_model.specs.declared.core_tree.Core.{Core}

-- the number of a node's declaration
abbrev pub declaration_of : NodeC → ℕ
declaration_of (Rules b) = b.declaration
declaration_of (From stream) = stream.declaration
declaration_of (To stream) = stream.declaration

-- the line of a node's declaration
abbrev pub line_of : NodeC → ℕ
line_of (Rules b) = b.line
line_of (From stream) = stream.line
line_of (To stream) = stream.line

-- a node or a wire of the declaration stands at the line
pub data StandsAt (core : Core) : ℕ → ℕ → Type 0 where
  node : (n : ℕ) (node : NodeC) → slice_get core.nodes n ≡ Some node → StandsAt core (declaration_of node) (line_of node)
  wire : (w : ℕ) (wire : WireC) → slice_get core.wires w ≡ Some wire → StandsAt core wire.declaration wire.line

-- the refusal is of the least rule that is broken, and has the line of the declaration that breaks it
pub record IsRefusal (core : Core) (broken : Finding → Type 0) (refusal : Refusal) : Type 0 where
  pub finding : Finding
  pub least : IsLeast broken (Some finding)
  pub rule : refusal.rule ≡ finding.rule
  pub line : StandsAt core finding.declaration refusal.line
