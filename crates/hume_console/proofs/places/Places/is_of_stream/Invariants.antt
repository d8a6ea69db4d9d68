use Rattle.std.proofs.Common.{◌≡◌, false}
use Rattle.std.specs.List.{list_any, range_with_len}
use Rattle.hume_console.specs.inner.Placed.{stands_at}
use Rattle.hume_console.proofs.places.Places.is_of_stream.Given as goal

abbrev pub invariant-loop-node : goal.invariant-loop-node
invariant-loop-node l = list_any (stands_at l.core l.self.streams.items l.at) (range_with_len 0 l.node) ≡ false
