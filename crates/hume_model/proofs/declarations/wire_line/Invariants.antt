use Rattle.std.proofs.Common.{◌≡◌, drop, ◌==◌}
use Rattle.std.specs.List.{find}
use Rattle.hume_model.specs.declared.core_tree.WireC.{WireC}
use Rattle.hume_model.proofs.declarations.wire_line.Given as goal

abbrev pub invariant-loop-wire : goal.invariant-loop-wire
invariant-loop-wire l =
    find (λ (wire : WireC). wire.declaration == l.declaration) (drop l.wire-index l.wires)
    ≡ find (λ (wire : WireC). wire.declaration == l.declaration) l.wires
