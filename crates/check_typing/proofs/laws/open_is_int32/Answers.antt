use Rattle.check_typing.proofs.OpenIsInt32.{open_is_int32}
use Rattle.check_typing.proofs.laws.open_is_int32.Goals as goal

pub returns : goal.returns
returns c = open_is_int32
