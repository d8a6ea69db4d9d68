use Rattle.std.proofs.lemmas.List.Elements.{All-weaker}
use Rattle.hume_model.specs.WellFormed.{IsWellFormed}
use Rattle.union_laws.proofs.KnownCalls.{runs_alone}
use Rattle.union_laws.proofs.ProgramPeaks.{share_start}
use Rattle.union_laws.proofs.SharedNets.{RunsAlone}
use Rattle.union_laws.proofs.Starts.{left_start, right_start}
use Rattle.union_laws.proofs.laws.programs_start_as_alone.Goals as goal

pub returns-clause-left : goal.returns-clause-left
returns-clause-left c = left_start

pub returns-clause-right : goal.returns-clause-right
returns-clause-right c = right_start

pub returns-clause-each : goal.returns-clause-each
returns-clause-each c = λ programs formed place program found coming.
    share_start programs (All-weaker IsWellFormed RunsAlone runs_alone programs formed) place program found coming
