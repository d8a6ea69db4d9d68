use Rattle.hume_console.proofs.LinesTold.{line_told}
use Rattle.hume_console.proofs.telling.tell_no_exchange.Goals as goal

pub returns-clause-ends : goal.returns-clause-ends
returns-clause-ends g c = line_told _ _ _ _ _ _ _ _ c.requires.out c.clear.ensures.bytes c.put_no_exchange.ensures.line c.bytes.ensures c.write_act.ensures.ends
