use Rattle.hume_run.proofs.Faulting.{failed_input}
use Rattle.hume_run.proofs.laws.failed_inputs_tell_their_round.Goals as goal

pub returns : goal.returns
returns c workers place named text accepted names texts traced steps coming olds news is fit f no_write no_finish no_source =
    failed_input workers place named text texts accepted is traced steps coming
    (c.wants_stand_before_rounds.ensures accepted.core coming traced steps) olds news f no_write no_finish no_source
