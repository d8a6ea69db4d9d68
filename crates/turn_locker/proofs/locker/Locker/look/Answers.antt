use Rattle.std.proofs.Common.{rules}
use Rattle.turn_locker.proofs.Steps.{looks_step}
use Rattle.turn_locker.proofs.locker.Locker.look.Goals as goal

pub load-requires : goal.load-requires
load-requires g c = let own = c.requires.own in (search rules, search rules, looks_step _ _ _ _ _ _ _ _ own.share own.out_held own.slots)
