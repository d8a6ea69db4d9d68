use Rattle.hume_ast.proofs.Depths.{fits_depth, refit}
use Rattle.hume_ast.proofs.SmallDepths.{type_decided, pat_decided}
use Rattle.hume_ast.proofs.ProgramDepths.{bound_decided, program_decided}
use Rattle.hume_ast.proofs.laws.depth_decides.Goals as goal

pub returns-clause-types : goal.returns-clause-types
returns-clause-types c = type_decided

pub returns-clause-patterns : goal.returns-clause-patterns
returns-clause-patterns c = pat_decided

pub returns-clause-expressions : goal.returns-clause-expressions
returns-clause-expressions c = λ bound m room level exp f. (fits_depth bound room level exp, λ d. refit bound m room level exp d f)

pub returns-clause-bounds : goal.returns-clause-bounds
returns-clause-bounds c = bound_decided

pub returns-clause-programs : goal.returns-clause-programs
returns-clause-programs c = program_decided
