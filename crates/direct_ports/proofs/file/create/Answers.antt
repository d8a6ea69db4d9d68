use Rattle.hume_ports.proofs.OpenFiles.{stays_open, opens_now}
use Rattle.direct_ports.proofs.file.create.Goals as goal

pub returns-else-is_none : goal.returns-else-is_none
returns-else-is_none g c = stays_open _ c.if-is_none.ensures

pub returns-in-Ok : goal.returns-in-Ok
returns-in-Ok g c = opens_now _ _ c.if-is_none.ensures
