use Rattle.look_sources.proofs.Growing.{grows_by, grows_more}
use Rattle.look_cores.proofs.texts.+put_value.Goals as goal

pub put_fields-loop-i-preserved : goal.put_fields-loop-i-preserved
put_fields-loop-i-preserved t c =
    grows_by c.put-in-loop-i.ensures (grows_more c.put_value.ensures (grows_by c.put.ensures (c.loop-i.invariant)))
