use Rattle.std.proofs.Common.{length}
use Rattle.hume_model.proofs.Agreement.{call_unfolds}
use Rattle.hume_model.proofs.laws.calls_unfold.Goals as goal

pub returns : goal.returns
returns c = λ core sound f args below. call_unfolds core sound.calls (length core.funs) f args below
