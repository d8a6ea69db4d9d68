use Rattle.look_sources.proofs.Growing.{grows_by, grows_more, grows_none}
use Rattle.look_cores.proofs.texts.+put_type.Goals as goal

pub put_type-returns-in-Vector : goal.put_type-returns-in-Vector
put_type-returns-in-Vector t c =
    grows_more c.put_type.ensures (grows_by c.put-in-Vector-2.ensures (grows_by c.number-in-Vector.ensures (grows_by c.put-in-Vector.ensures (grows_none _))))
