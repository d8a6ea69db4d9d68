use Rattle.std.proofs.lemmas.List.Elements.{All-weaker}
use Rattle.hume_model.specs.WellFormed.{IsWellFormed}
use Rattle.union_laws.proofs.KnownCalls.{runs_alone}
use Rattle.union_laws.proofs.Programs.{share_alone}
use Rattle.union_laws.proofs.SharedNets.{RunsAlone}
use Rattle.union_laws.proofs.Unions.{left_alone, right_alone}
use Rattle.union_laws.proofs.laws.programs_run_as_alone.Goals as goal

pub returns-clause-left : goal.returns-clause-left
returns-clause-left c = λ a b formed state k. left_alone a b state (runs_alone a formed) k

pub returns-clause-right : goal.returns-clause-right
returns-clause-right c = λ a b first formed state k. right_alone a b state (runs_alone a first) (runs_alone b formed) k

pub returns-clause-each : goal.returns-clause-each
returns-clause-each c = λ programs formed place program found state k.
    share_alone programs (All-weaker IsWellFormed RunsAlone runs_alone programs formed) place program found state k
