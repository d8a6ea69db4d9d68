use Rattle.std.proofs.Common.{◌≡◌, slice_get}
use Rattle.hume_net.specs.Sides.{numbered}
use Rattle.hume_net.specs.inner.Ends.{input_wires}
use Rattle.hume_net.proofs.ends.all_inputs.Given as goal

abbrev pub invariant-loop-number : goal.invariant-loop-number
invariant-loop-number l = l.all ≡ numbered l.number (λ n. input_wires l.core n (slice_get l.core.nodes n))
