use Rattle.std.proofs.Common.{◌∙◌, ap}
use Rattle.phase_workers.specs.Engines.{queue_at}
use Rattle.log_rounds.proofs.Agreeing.{compares_as}
use Rattle.log_rounds.proofs.verifying.verify_half.Goals as goal

pub returns-clause-queues : goal.returns-clause-queues
returns-clause-queues g c n = ap (λ e. queue_at e n) c.compare.ensures.engine ∙ c.half.ensures.queues n

pub returns-clause-compares : goal.returns-clause-compares
returns-clause-compares g c = compares_as _ _ _ _ _ _ _ _ c.half.ensures.core c.half.ensures.moment c.compare.ensures.compares
