use Rattle.std.proofs.Common.{take}
use Rattle.hume_streams.specs.inner.Newlines.{HasNoNewline}
use Rattle.hume_console.proofs.command_lines.newline_in.Given as goal

abbrev pub invariant-loop-place : goal.invariant-loop-place
invariant-loop-place l = HasNoNewline (take l.place l.bytes)
