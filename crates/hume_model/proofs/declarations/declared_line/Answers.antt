use Rattle.std.proofs.Common.{◌∙◌, List, refl, sym, ap}
use Rattle.std.specs.List.{find}
use Rattle.std.specs.Option.{option_map}
use Rattle.hume_model.specs.declared.core_tree.NodeC.{NodeC}
use Rattle.hume_model.specs.declared.core_tree.WireC.{WireC}
use Rattle.hume_model.specs.Declarations.{line_of}
use Rattle.hume_model.proofs.DeclaredLines.{of_node, of_wire, node_stands, wire_stands, neither}
use Rattle.hume_model.proofs.declarations.declared_line.Goals as goal

pub returns-in-Some : goal.returns-in-Some
returns-in-Some c line at =
    node_stands c.args.core.now c.args.declaration _ refl c.in-Some.line
    (ap (λ (nodes : List NodeC). option_map line_of (find (of_node c.args.declaration) nodes)) (sym c.as_slice.ensures) ∙ sym c.node_line.ensures ∙ c.in-Some.is)

pub returns-in-Some-wire_line : goal.returns-in-Some-wire_line
returns-in-Some-wire_line c line at =
    wire_stands c.args.core.now c.args.declaration _ refl c.in-Some-wire_line.line
    (ap (λ (wires : List WireC). option_map (λ (wire : WireC). wire.line) (find (of_wire c.args.declaration) wires)) (sym c.as_slice-2.ensures) ∙ sym c.wire_line.ensures ∙ c.in-Some-wire_line.is)

pub returns : goal.returns
returns c line at = absurd (neither c.args.core.now c.args.declaration
    (ap (λ (nodes : List NodeC). option_map line_of (find (of_node c.args.declaration) nodes)) (sym c.as_slice.ensures) ∙ sym c.node_line.ensures ∙ c.in_default.is)
    (ap (λ (wires : List WireC). option_map (λ (wire : WireC). wire.line) (find (of_wire c.args.declaration) wires)) (sym c.as_slice-2.ensures) ∙ sym c.wire_line.ensures ∙ c.in_default-wire_line.is)
    line at)
