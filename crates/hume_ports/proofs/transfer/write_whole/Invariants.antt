use Rattle.std.proofs.Common.{length}
use Rattle.hume_ports.proofs.Writing.{HasWritten}
use Rattle.hume_ports.proofs.transfer.write_whole.Given as goal

abbrev pub invariant-loop-rest : goal.invariant-loop-rest
invariant-loop-rest g l = HasWritten (g.F.Write.contents l.initial.file) (g.F.Write.contents l.file) l.bytes l.rest

abbrev pub decreases-loop-rest : goal.decreases-loop-rest
decreases-loop-rest g l = length l.rest
