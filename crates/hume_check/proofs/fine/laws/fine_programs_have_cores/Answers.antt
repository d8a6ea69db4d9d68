use Rattle.hume_check.proofs.fine_lemmas.Cores.{some_core}
use Rattle.hume_check.proofs.fine.laws.fine_programs_have_cores.Goals as goal

pub returns : goal.returns
returns c = λ text program fit fine. some_core text program fit fine
