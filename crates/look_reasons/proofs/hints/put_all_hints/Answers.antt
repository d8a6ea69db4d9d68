use Rattle.look_sources.proofs.Growing.{grows_more}
use Rattle.look_reasons.proofs.hints.put_all_hints.Goals as goal

pub returns-in_err-put_constant : goal.returns-in_err-put_constant
returns-in_err-put_constant c =
    grows_more c.put_constant.ensures (grows_more c.put_outputs.ensures (grows_more c.put_lost.ensures (c.put_waiting.ensures)))

pub returns : goal.returns
returns c =
    grows_more c.put_unused.ensures (grows_more c.put_behind.ensures (grows_more c.put_constant.ensures (grows_more c.put_outputs.ensures (grows_more c.put_lost.ensures (c.put_waiting.ensures)))))
