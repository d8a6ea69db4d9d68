use Rattle.std.proofs.Common.{◌≡◌, map, take}
use Rattle.hume_net.proofs.plan.find_plan.Given as goal

abbrev pub invariant-loop-wire : goal.invariant-loop-wire
invariant-loop-wire l =
    (l.producer ≡ map (λ wire. wire.from) (take l.wire-index l.core.wires))
    × (l.consumer ≡ map (λ wire. wire.to) (take l.wire-index l.core.wires))
