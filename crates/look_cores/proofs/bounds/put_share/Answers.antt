use Rattle.look_sources.proofs.Growing.{grows_by, grows_none}
use Rattle.look_cores.proofs.bounds.put_share.Goals as goal

pub returns-then-amount-gt0 : goal.returns-then-amount-gt0
returns-then-amount-gt0 c =
    grows_by c.put-then-amount-gt0-3.ensures (grows_by c.number.ensures (grows_by c.put-then-amount-gt0-2.ensures (grows_by c.put-then-amount-gt0.ensures (grows_by c.put.ensures (grows_none _)))))
