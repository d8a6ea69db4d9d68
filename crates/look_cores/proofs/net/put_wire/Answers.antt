use Rattle.look_sources.proofs.Growing.{grows_by, grows_more}
use Rattle.look_cores.proofs.net.put_wire.Goals as goal

pub returns : goal.returns
returns c =
    grows_more c.put_wire_label.ensures (grows_more c.put_ports.ensures (grows_by c.put.ensures (grows_more c.put_number-2.ensures (grows_more c.put_attribute-2.ensures (grows_more c.put_number.ensures (grows_more c.put_attribute.ensures c.put_ends.ensures))))))
