use Rattle.hume_exceptions.proofs.CallsCover.{eval_covers}
use Rattle.hume_exceptions.proofs.ResultsCover.{result_covers}
use Rattle.hume_exceptions.proofs.laws.raised_is_expected.Goals as goal

pub returns-clause-expressions : goal.returns-clause-expressions
returns-clause-expressions c core sound vars e ty has env is exn carried raises = (eval_covers core sound exn has env is).by carried raises

pub returns-clause-results : goal.returns-clause-results
returns-clause-results c core sound tys vars res gives env is exn carried throws = (result_covers core sound exn tys gives env is).by carried throws
