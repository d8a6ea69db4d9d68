use Rattle.std.proofs.Common.{◌≡◌, map, take}
use Rattle.std.specs.Option.{option_to_list}
use Rattle.hume_net.proofs.start.initial_values.Given as goal

abbrev pub invariant-loop-wire : goal.invariant-loop-wire
invariant-loop-wire l = l.wires ≡ map (λ wire. option_to_list wire.initial) (take l.wire-index l.core.wires)
