use Rattle.std.specs.Io.KnownBytes.{Keeps}
use Rattle.hume_ports.proofs.transfer.write_once.Given as goal

abbrev pub invariant-loop : goal.invariant-loop
invariant-loop g l = Keeps (g.F.Write.contents l.initial.file) (g.F.Write.contents l.file)
