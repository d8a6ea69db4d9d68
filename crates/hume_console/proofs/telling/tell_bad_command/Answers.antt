use Rattle.hume_console.proofs.LinesTold.{bad_command_told}
use Rattle.hume_console.proofs.telling.tell_bad_command.Goals as goal

pub returns-clause-ends : goal.returns-clause-ends
returns-clause-ends g c = bad_command_told _ _ _ _ _ _ _ _ _ c.requires.out c.clear.ensures.bytes c.put_bad_line.ensures.line c.bytes.ensures c.from.ensures
    c.write_act.ensures.ends
