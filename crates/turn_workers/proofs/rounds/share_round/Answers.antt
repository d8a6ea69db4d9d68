use Rattle.std.proofs.Common.{refl}
use Rattle.turn_workers.proofs.rounds.share_round.Goals as goal

pub share_on-requires-clause-groups : goal.share_on-requires-clause-groups
share_on-requires-clause-groups g c κs within = let division = c.requires.division in (refl, division.groups, division.few, division.ways)
