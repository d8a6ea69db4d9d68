use Rattle.match_rules.proofs.Taking.{left_held}
use Rattle.match_rules.proofs.laws.cells_hold_what_is_left.Goals as goal

pub returns : goal.returns
returns c = λ core types cells values taken are. left_held core taken are
