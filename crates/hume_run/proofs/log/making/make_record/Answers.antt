use Rattle.std.proofs.Common.{[], ◌∷◌}
use Rattle.run_rounds.specs.Streams.{std_out}
use Rattle.hume_calls.proofs.Answering.{meant}
use Rattle.hume_run.proofs.Logged.{both_named, record_failed, record_made, record_unfinished}
use Rattle.hume_run.proofs.log.making.make_record.Goals as goal

pub returns-in-Err : goal.returns-in-Err
returns-in-Err g c port place = record_failed _ _ _ _ _ _ (c.in-Err.ensures.ends port (meant _ _ _ place))

pub returns-in-Ok-finish_acts : goal.returns-in-Ok-finish_acts
returns-in-Ok-finish_acts g c port place =
    record_made _ _ _ _ _ _ _ (c.in-Ok.ensures.ends port (meant _ _ _ place))
    (c.in-Ok-finish_acts.ensures.ends (port ∷ std_out ∷ []) (both_named _ _ port _ _ _ place c.requires.out c.in-Ok.ensures.same_names))

pub returns-in-Err-finish_acts : goal.returns-in-Err-finish_acts
returns-in-Err-finish_acts g c port place =
    record_unfinished _ _ _ _ _ _ _ (c.in-Ok.ensures.ends port (meant _ _ _ place)) _
    (c.in-Err-finish_acts.ensures.ends (port ∷ std_out ∷ []) (both_named _ _ port _ _ _ place c.requires.out c.in-Ok.ensures.same_names))
