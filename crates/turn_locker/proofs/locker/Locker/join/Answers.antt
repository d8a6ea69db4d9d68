use Rattle.std.proofs.Common.{rules}
use Rattle.turn_locker.proofs.Ends.{joins}
use Rattle.turn_locker.proofs.Seats.{nothing_out}
use Rattle.turn_locker.proofs.locker.Locker.join.Goals as goal

pub join_seat-requires : goal.join_seat-requires
join_seat-requires g c = let own = c.requires.own in let free = c.requires.free.1 in
    (search rules, search rules, nothing_out _ _ own.1 free, search rules, joins _ _ _ _ _ _ _ _ own.0.share free)
