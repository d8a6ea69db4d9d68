use Rattle.hume_exceptions.proofs.Handles.{handles_all}
use Rattle.hume_exceptions.proofs.laws.fine_handlers_handle_all.Goals as goal

pub returns : goal.returns
returns c core formed fine n b at = handles_all core formed fine n b at
