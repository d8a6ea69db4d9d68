use Rattle.std.proofs.Common.{◌≤◌, ◌-◌, take, length, cond}
use Rattle.hume_streams.specs.Contents.{unread_in}
use Rattle.hume_streams.specs.inner.Newlines.{HasNoNewline}
use Rattle.hume_streams.specs.inner.Buffers.{Draws}
use Rattle.hume_streams.proofs.buffer.LineBuffer.next_line.Given as goal

abbrev pub invariant-pieces : goal.invariant-pieces
invariant-pieces g l = record {
  draws : Draws l.initial.self l.self
      ((goal.Port-dyn g (l.initial.port.vtable, l.initial.port.value)).view l.initial.port.value)
      ((goal.Port-dyn g (l.port.vtable, l.port.value)).view l.port.value);
  within : l.scanned ≤ length (unread_in l.self);
  scanned : HasNoNewline (take l.scanned (unread_in l.self));
}

abbrev pub decreases-pieces : goal.decreases-pieces
decreases-pieces g l = cond l.self.ended 0 (65538 - length (unread_in l.self))
