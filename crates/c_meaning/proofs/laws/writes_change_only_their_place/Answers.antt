use Rattle.c_meaning.proofs.Blocks.{constants_stay, nothing_else_changes, other_blocks_stay}
use Rattle.c_meaning.proofs.Paths.{apart_stays}
use Rattle.c_meaning.proofs.laws.writes_change_only_their_place.Goals as goal

pub returns-clause-apart : goal.returns-clause-apart
returns-clause-apart c = apart_stays

pub returns-clause-others : goal.returns-clause-others
returns-clause-others c = other_blocks_stay

pub returns-clause-rest : goal.returns-clause-rest
returns-clause-rest c = nothing_else_changes

pub returns-clause-constants : goal.returns-clause-constants
returns-clause-constants c = constants_stay
