use Rattle.look_sources.proofs.Growing.{grows_by, grows_more, grows_none}
use Rattle.look_cores.proofs.bounds.put_box.Goals as goal

pub returns : goal.returns
returns c =
    grows_more c.put_reason-3.ensures (grows_more c.put_reason-2.ensures (grows_more c.put_reason.ensures (grows_more c.put_handlers.ensures (grows_more c.put_rules.ensures (grows_by c.put-3.ensures (grows_more c.put_bound.ensures (grows_by c.put-2.ensures (grows_by c.put.ensures (grows_none _)))))))))
