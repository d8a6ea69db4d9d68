use Rattle.hume_console.proofs.OutputsFinished.{session_finishes}
use Rattle.hume_console.proofs.laws.sessions_finish_their_outputs.Goals as goal

pub returns : goal.returns
returns c core supplies source offers fit out at_out at last = session_finishes core source offers fit out at_out supplies at last
