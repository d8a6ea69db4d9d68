use Rattle.check_wires.proofs.types_lemmas.Found.{found_between}
use Rattle.check_wires.proofs.types.laws.types_between_ends.Goals as goal

pub returns : goal.returns
returns c = found_between
