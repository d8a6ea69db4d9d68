use Rattle.hume_look.proofs.Cores.{readable}
use Rattle.hume_look.proofs.failures.programs.checked.Goals as goal

pub returns-in-Ok : goal.returns-in-Ok
returns-in-Ok c = readable _ _ c.in-Ok.ensures.sound
