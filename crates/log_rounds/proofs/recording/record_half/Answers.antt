use Rattle.std.proofs.Common.{◌∙◌, ap}
use Rattle.phase_workers.specs.Engines.{queue_at}
use Rattle.log_rounds.proofs.RecordSteps.{lines_as}
use Rattle.log_rounds.proofs.recording.record_half.Goals as goal

pub returns-clause-queues : goal.returns-clause-queues
returns-clause-queues g c n = ap (λ e. queue_at e n) c.write.ensures.engine ∙ c.half.ensures.queues n

pub returns-clause-ends : goal.returns-clause-ends
returns-clause-ends g c = lines_as _ _ _ _ _ _ _ _ c.half.ensures.core c.half.ensures.moment c.write.ensures.ends
