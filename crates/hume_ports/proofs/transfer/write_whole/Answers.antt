use Rattle.hume_ports.proofs.Writing.{HasWritten-on}
use Rattle.hume_ports.proofs.transfer.write_whole.Goals as goal

pub loop-rest-preserved : goal.loop-rest-preserved
loop-rest-preserved g c = HasWritten-on _ _ _ _ _ _ c.loop-rest.invariant c.in-Ok.ensures.bound c.in-Ok.ensures.ok
