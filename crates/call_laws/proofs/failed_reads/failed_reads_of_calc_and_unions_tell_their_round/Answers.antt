use Rattle.std.proofs.Common.{false}
use Rattle.hume_calls.specs.Unions.{union_core}
use Rattle.call_laws.proofs.FailedForms.{calc_failed, union_failed}
use Rattle.call_laws.proofs.failed_reads.failed_reads_of_calc_and_unions_tell_their_round.Goals as goal

pub returns-clause-calc : goal.returns-clause-calc
returns-clause-calc c steps workers place script named text texts sound core coming old new =
    calc_failed steps workers place script named text texts sound core coming old new (c.wants_stand_before_rounds.ensures core coming false steps)

pub returns-clause-union : goal.returns-clause-union
returns-clause-union c steps workers count place named text texts programs coming old new =
    union_failed steps workers count place named text texts programs coming old new
    (c.wants_stand_before_rounds.ensures (union_core programs) coming false steps)
