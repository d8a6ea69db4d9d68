use Rattle.std.proofs.Common.{◌≡◌, take, map}
use Rattle.union_laws.specs.Moving.{moved_wire}
use Rattle.std.specs.Prelude.{IfOk}
use Rattle.net_union.proofs.wires.move_wires.Given as goal

abbrev pub invariant-loop-wire : goal.invariant-loop-wire
invariant-loop-wire l = IfOk l.higher (λ made. made ≡ map (moved_wire l.fn.moves) (take l.wire-index l.wires))
