-- Which inputs and outputs want a wire or have one too many, and which wires join what doesn't go together. Each fact is
-- about the number of a declaration.
use Rattle.std.specs.Prelude.{◌≡◌, ◌≢◌, ◌⊎◌, ⊤, ℕ, ◌<◌, Bool, true, List, Option, Some, None, slice_get}
use Rattle.hume_base.specs.declared.types.Ty.{Ty}
use Rattle.hume_base.specs.declared.finding.Finding.{Finding}
use Rattle.hume_base.specs.declared.rule.Rule.TheVariants.{C50, C51, C52, C53, C54}
use Rattle.hume_base.specs.Least.{OfRule}
use Rattle.hume_model.specs.declared.core_tree.NodeC.{NodeC}
use Rattle.hume_model.specs.declared.core_tree.WireC.{WireC}
use Rattle.hume_model.specs.declared.core_tree.Core.{Core}
use Rattle.hume_model.specs.Wiring.{inputs_of, outputs_of, leads_to, comes_from}
use Rattle.hume_model.specs.WireEnds.{output_type, input_type}
use Rattle.hume_model.specs.Declarations.{declaration_of}

-- none of the wires passes the test
abbrev pub NoWire : (WireC → Bool) → List WireC → Type 0
NoWire test wires = (w : ℕ) (wire : WireC) → slice_get wires w ≡ Some wire → test wire ≡ true → ⊥

-- the declaration is that of a node with an input to which no wire leads
pub record LacksInput (core : Core) (declaration : ℕ) : Type 0 where
  pub n : ℕ
  pub node : NodeC
  pub there : slice_get core.nodes n ≡ Some node
  pub declared : declaration_of node ≡ declaration
  pub input : ℕ
  pub within : input < inputs_of node
  pub none : NoWire (leads_to n input) core.wires

-- of a node with an output from which no wire comes
pub record LacksOutput (core : Core) (declaration : ℕ) : Type 0 where
  pub n : ℕ
  pub node : NodeC
  pub there : slice_get core.nodes n ≡ Some node
  pub declared : declaration_of node ≡ declaration
  pub output : ℕ
  pub within : output < outputs_of node
  pub none : NoWire (comes_from n output) core.wires

-- the wire passes a test that an earlier one passes
pub record ComesAfter (test : WireC → Bool) (wires : List WireC) (w : ℕ) : Type 0 where
  pub x : ℕ
  pub earlier : WireC
  pub there : slice_get wires x ≡ Some earlier
  pub before : x < w
  pub passes : test earlier ≡ true

-- of a wire to an input to which an earlier wire leads
pub record RepeatsInput (core : Core) (declaration : ℕ) : Type 0 where
  pub w : ℕ
  pub wire : WireC
  pub there : slice_get core.wires w ≡ Some wire
  pub declared : wire.declaration ≡ declaration
  pub after : ComesAfter (leads_to wire.to wire.to_port) core.wires w

-- of a wire from an output from which an earlier wire comes
pub record RepeatsOutput (core : Core) (declaration : ℕ) : Type 0 where
  pub w : ℕ
  pub wire : WireC
  pub there : slice_get core.wires w ≡ Some wire
  pub declared : wire.declaration ≡ declaration
  pub after : ComesAfter (comes_from wire.from wire.from_port) core.wires w

-- two ends don't go together: they have different types, or neither has one, as both are streams
abbrev pub Differ : Option Ty → Option Ty → Type 0
Differ None None = ⊤
Differ None (Some second) = ⊥
Differ (Some first) None = ⊥
Differ (Some first) (Some second) = first ≢ second

-- of a wire whose ends don't go together
pub record JoinsOthers (core : Core) (declaration : ℕ) : Type 0 where
  pub w : ℕ
  pub wire : WireC
  pub there : slice_get core.wires w ≡ Some wire
  pub declared : wire.declaration ≡ declaration
  pub producer : NodeC
  pub from : slice_get core.nodes wire.from ≡ Some producer
  pub consumer : NodeC
  pub to : slice_get core.nodes wire.to ≡ Some consumer
  pub differ : Differ (output_type producer wire.from_port) (input_type consumer wire.to_port)

-- what the wires of a core break
abbrev pub BreaksWires : Core → Finding → Type 0
BreaksWires core finding =
    OfRule C50 (LacksInput core) finding
    ⊎ (OfRule C51 (RepeatsInput core) finding
    ⊎ (OfRule C52 (LacksOutput core) finding
    ⊎ (OfRule C53 (RepeatsOutput core) finding
    ⊎ OfRule C54 (JoinsOthers core) finding)))
