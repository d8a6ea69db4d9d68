use Rattle.std.proofs.Common.{◌≡◌, drop}
use Rattle.std.specs.List.{find}
use Rattle.phase_workers.specs.StreamTypes.{joins}
use Rattle.phase_workers.proofs.stream_types.first_wire.Given as goal

abbrev pub invariant-loop-wire : goal.invariant-loop-wire
invariant-loop-wire l = find (joins l.node) (drop l.wire-index l.wires) ≡ find (joins l.node) l.wires
