use Rattle.hume_check.proofs.Assembling.{assembled}
use Rattle.hume_check.proofs.assembly.core_of.Goals as goal

pub returns : goal.returns
returns c = λ text program order are same h. assembled text program c.args.signatures order c.args.parts are same h
