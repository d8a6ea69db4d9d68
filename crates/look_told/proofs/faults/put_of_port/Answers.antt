use Rattle.look_sources.proofs.Growing.{grows_by, grows_more, grows_none}
use Rattle.look_told.proofs.faults.put_of_port.Goals as goal

pub returns : goal.returns
returns c =
    grows_more c.put_why.ensures (grows_by c.put-4.ensures (grows_by c.put-3.ensures (grows_by c.put-2.ensures (grows_by c.put.ensures (grows_none _)))))
