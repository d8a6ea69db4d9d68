use Rattle.std.proofs.Common.{◌-◌, length, cond, map}
use Rattle.hume_console.specs.inner.CommandBuffers.{unread_in}
use Rattle.hume_console.proofs.CommandReads.{Reading}
use Rattle.hume_console.proofs.command_lines.CommandLines.next.Given as goal

abbrev pub invariant-pieces : goal.invariant-pieces
invariant-pieces g l = Reading l.initial.self l.self l.at
    (map (λ b. (goal.Port-dyn g (b.vtable, b.value)).view b.value) l.initial.ports)
    (map (λ b. (goal.Port-dyn g (b.vtable, b.value)).view b.value) l.ports)

abbrev pub decreases-pieces : goal.decreases-pieces
decreases-pieces g l = cond l.self.ended 0 (257 - length (unread_in l.self))
