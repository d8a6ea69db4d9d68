use Rattle.hume_console.proofs.OutputsWritten.{session_writes}
use Rattle.hume_console.proofs.laws.sessions_write_to_their_outputs.Goals as goal

pub returns : goal.returns
returns c core supplies source offers = session_writes core supplies source offers
