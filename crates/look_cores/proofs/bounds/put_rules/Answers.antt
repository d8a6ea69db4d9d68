use Rattle.look_sources.proofs.Growing.{grows_by, grows_more}
use Rattle.look_cores.proofs.bounds.put_rules.Goals as goal

pub loop-i-preserved : goal.loop-i-preserved
loop-i-preserved c =
    grows_by c.put-in-loop-i.ensures (grows_more c.put_mark-in-loop-i-2.ensures (grows_more c.put_mark-in-loop-i.ensures (grows_more c.put_mark.ensures (grows_more c.put_bound.ensures (grows_by c.number.ensures (grows_by c.put.ensures (c.loop-i.invariant)))))))
