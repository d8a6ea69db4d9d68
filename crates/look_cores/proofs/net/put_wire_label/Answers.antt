use Rattle.look_sources.proofs.Growing.{grows_by, grows_more}
use Rattle.look_cores.proofs.net.put_wire_label.Goals as goal

pub returns : goal.returns
returns c =
    grows_more c.fail_with-2.ensures (grows_more c.fail_with.ensures (grows_by c.put.ensures (grows_more c.put_initial.ensures (grows_more c.put_depth.ensures c.put_escaped.ensures))))
