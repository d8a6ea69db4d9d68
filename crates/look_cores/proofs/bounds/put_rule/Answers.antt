use Rattle.look_sources.proofs.Growing.{grows_by, grows_more, grows_none}
use Rattle.look_cores.proofs.bounds.put_rule.Goals as goal

pub returns : goal.returns
returns c =
    grows_by c.put-5.ensures (grows_by c.number-2.ensures (grows_by c.put-4.ensures (grows_more c.put_excess.ensures (grows_by c.number.ensures (grows_by c.put-3.ensures (grows_by c.put-2.ensures (grows_by c.put.ensures (grows_none _))))))))
