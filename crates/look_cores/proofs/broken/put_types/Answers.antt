use Rattle.look_sources.proofs.Growing.{grows_by, grows_more, grows_none}
use Rattle.look_cores.proofs.broken.put_types.Goals as goal

pub returns : goal.returns
returns c =
    grows_by c.put-3.ensures (grows_more c.put_type-2.ensures (grows_by c.put-2.ensures (grows_more c.put_type.ensures (grows_by c.put.ensures (grows_none _)))))
