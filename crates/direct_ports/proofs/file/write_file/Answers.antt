use Rattle.hume_ports.proofs.OpenFiles.{writes_on}
use Rattle.direct_ports.proofs.file.write_file.Goals as goal

pub returns-in-Some : goal.returns-in-Some
returns-in-Some g c = writes_on g.R.File.Write.contents _ _ _ _ c.in_ok-create.ensures c.in-Some.is c.args.bytes.now _ c.write_whole.ensures
