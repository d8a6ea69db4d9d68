use Rattle.look_sources.proofs.Growing.{grows_by, grows_more}
use Rattle.look_told.proofs.unfit.put_start.Goals as goal

pub returns : goal.returns
returns c = grows_more c.put_stream.ensures (grows_by c.number.ensures (grows_by c.put.ensures c.put_head.ensures))
