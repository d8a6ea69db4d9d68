use Rattle.hume_exceptions.proofs.Bits.{bits_or}
use Rattle.hume_exceptions.proofs.exn_set.ExnSet.or.Goals as goal

pub returns : goal.returns
returns c exn = bits_or c.args.self.bits c.args.other.bits exn
