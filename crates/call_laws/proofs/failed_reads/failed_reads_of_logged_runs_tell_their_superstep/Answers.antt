use Rattle.std.proofs.Common.{true}
use Rattle.hume_calls.specs.declared.order.Order.TheVariants.{Log}
use Rattle.hume_calls.specs.Few.{call_few}
use Rattle.hume_calls.specs.Words.{further_of}
use Rattle.call_laws.proofs.FailedForms.{record_failed, verify_failed}
use Rattle.call_laws.proofs.failed_reads.failed_reads_of_logged_runs_tell_their_superstep.Goals as goal

pub returns-clause-record : goal.returns-clause-record
returns-clause-record c = record_failed

pub returns-clause-verify : goal.returns-clause-verify
returns-clause-verify c steps place log named text texts core coming outcome old new =
    verify_failed (call_few (Log steps place log true) named text texts) named.source (further_of named) steps core coming outcome old new
    (c.verified_runs_tell_one_line.ensures.reads core coming (further_of named) steps outcome)
