use Rattle.std.proofs.Common.{map, string_bytes}
use Rattle.hume_ports.specs.Ports.{names}
use Rattle.hume_calls.proofs.Fitting.{Placed}
use Rattle.hume_calls.proofs.streams.find_places.Given as goal

abbrev pub invariant-loop-number : goal.invariant-loop-number
invariant-loop-number g l = Placed (names (map (λ b. (goal.Port-dyn g (b.vtable, b.value)).view b.value) l.ports)) l.source (map string_bytes l.others) l.nodes l.places.items l.number
