use Rattle.look_sources.proofs.Growing.{grows_by, grows_more, grows_none}
use Rattle.look_cores.proofs.bounds.put_handler.Goals as goal

pub returns : goal.returns
returns c =
    grows_by c.put-3.ensures (grows_more c.put_bound.ensures (grows_by c.put-2.ensures (grows_by c.put.ensures (grows_none _))))
