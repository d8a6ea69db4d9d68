use Rattle.look_sources.proofs.Growing.{grows_by, grows_none}
use Rattle.look_cores.proofs.broken.tell_bound.Goals as goal

pub returns-then-figure-from : goal.returns-then-figure-from
returns-then-figure-from c =
    grows_by c.put-then-figure-from-2.ensures (grows_by c.number-then-figure-from.ensures (grows_by c.put-then-figure-from.ensures (grows_by c.number.ensures (grows_by c.put.ensures (grows_none _)))))
