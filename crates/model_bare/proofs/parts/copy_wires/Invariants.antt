use Rattle.std.proofs.Common.{◌≡◌, take}
use Rattle.model_bare.proofs.parts.copy_wires.Given as goal

abbrev pub invariant-loop-wire : goal.invariant-loop-wire
invariant-loop-wire l = l.copies ≡ take l.wire-index l.wires
