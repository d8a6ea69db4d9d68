use Rattle.hume_exceptions.proofs.Completes.{complete_matched}
use Rattle.hume_exceptions.proofs.laws.complete_patterns_match.Goals as goal

pub returns : goal.returns
returns c types down ty pats are complete v is = complete_matched types down ty pats are complete v is
