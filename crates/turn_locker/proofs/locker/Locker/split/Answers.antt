use Rattle.std.proofs.Common.{rules}
use Rattle.turn_locker.proofs.Ends.{splits}
use Rattle.turn_locker.proofs.locker.Locker.split.Goals as goal

pub split_seat-other-requires : goal.split_seat-other-requires
split_seat-other-requires g c = (search rules, search rules, splits _ _ _ _ _ _ c.requires.share)
