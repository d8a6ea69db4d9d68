use Rattle.hume_net.proofs.StartTypes.{lockstep_typed}
use Rattle.hume_net.proofs.laws.locksteps_keep_types.Goals as goal

pub returns : goal.returns
returns c = λ core net initials coming typed k. lockstep_typed core net initials coming typed k
