use Rattle.std.proofs.lemmas.List.Elements.{All-weaker}
use Rattle.hume_model.specs.WellFormed.{IsWellFormed}
use Rattle.union_laws.proofs.KnownCalls.{runs_alone}
use Rattle.union_laws.proofs.ProgramPeaks.{share_peaks}
use Rattle.union_laws.proofs.SharedNets.{RunsAlone}
use Rattle.union_laws.proofs.SharedPeaks.{left_peaks, right_peaks}
use Rattle.union_laws.proofs.laws.nodes_take_what_they_take_alone.Goals as goal

pub returns-clause-left : goal.returns-clause-left
returns-clause-left c = λ a b formed state steps n within. left_peaks a b (runs_alone a formed) state steps n within

pub returns-clause-right : goal.returns-clause-right
returns-clause-right c = λ a b first second state steps n within. right_peaks a b (runs_alone a first) (runs_alone b second) state steps n within

pub returns-clause-each : goal.returns-clause-each
returns-clause-each c = λ programs formed place program found state steps n within.
    share_peaks programs (All-weaker IsWellFormed RunsAlone runs_alone programs formed) place program found state steps n within
