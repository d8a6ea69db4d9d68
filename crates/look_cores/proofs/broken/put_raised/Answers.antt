use Rattle.look_sources.proofs.Growing.{grows_by, grows_none}
use Rattle.look_cores.proofs.broken.put_raised.Goals as goal

pub returns-then-is_told : goal.returns-then-is_told
returns-then-is_told c =
    grows_by c.put-then-is_told-4.ensures (grows_by c.put-then-is_told-3.ensures (grows_by c.put-then-is_told-2.ensures (grows_by c.number.ensures (grows_by c.put-then-is_told.ensures (grows_by c.put.ensures (grows_none _))))))
