use Rattle.hume_net.proofs.StartTypes.{start_typed}
use Rattle.hume_net.proofs.laws.starts_have_types.Goals as goal

pub returns : goal.returns
returns c = λ core initials coming typed. start_typed core initials coming typed
