use Rattle.call_laws.proofs.EqualEnds.{calls_write_alike}
use Rattle.call_laws.proofs.equal_calls.equal_calls_write_the_same_bytes.Goals as goal

pub returns : goal.returns
returns c words old new others later first second same x y =
    calls_write_alike c.inputs_are_unique.ensures c.each_log_has_one_outcome.ensures.one words old new others later same first second x y
