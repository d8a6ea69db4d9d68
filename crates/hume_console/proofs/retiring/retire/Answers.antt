use Rattle.std.proofs.Common.{arith}
use Rattle.hume_console.proofs.LeavingPorts.{retired}
use Rattle.hume_console.proofs.retiring.retire.Goals as goal

pub returns-clause-leaves : goal.returns-clause-leaves
returns-clause-leaves g c = retired _ _ _ _ _ _ _ (omega arith) c.remove-port.ensures.value c.remove-port.ensures.items c.push_reserved.ensures.items
