use Rattle.std.proofs.Common.{◌≡◌, map}
use Rattle.hume_text.specs.Chunks.{room_of}
use Rattle.demo_rounds.specs.inner.Counted.{total_at}
use Rattle.demo_rounds.proofs.ChainsTold.{FirstTold}
use Rattle.demo_rounds.proofs.chains.tell_chains.Given as goal

abbrev pub invariant-loop-node : goal.invariant-loop-node
invariant-loop-node g l = record {
  told : FirstTold l.core (total_at l.totals) l.out
      (map (λ b. (goal.Port-dyn g (b.vtable, b.value)).view b.value) l.initial.ports)
      (map (λ b. (goal.Port-dyn g (b.vtable, b.value)).view b.value) l.ports)
      l.chain l.node;
  room : room_of l.chunk ≡ room_of l.initial.chunk;
}
