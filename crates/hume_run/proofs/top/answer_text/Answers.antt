use Rattle.hume_calls.proofs.Answering.{of_order}
use Rattle.hume_run.proofs.top.answer_text.Goals as goal

pub returns-in-Run : goal.returns-in-Run
returns-in-Run g c = of_order _ _ _ _ _ _ _ c.in-Run.is (c.run_text.ensures c.in-Run.source)

pub returns-in-Check : goal.returns-in-Check
returns-in-Check g c = of_order _ _ _ _ _ _ _ c.in-Check.is (c.check_text.ensures c.in-Check.source _)
