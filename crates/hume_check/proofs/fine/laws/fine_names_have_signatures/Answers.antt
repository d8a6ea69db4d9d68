use Rattle.hume_check.proofs.fine_lemmas.Signatures.{some_signatures}
use Rattle.hume_check.proofs.fine.laws.fine_names_have_signatures.Goals as goal

pub returns : goal.returns
returns c = λ decls bound fit named counts. some_signatures decls bound fit named counts
