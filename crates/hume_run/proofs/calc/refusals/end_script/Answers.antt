use Rattle.hume_run.proofs.Ending.{told_as}
use Rattle.hume_run.proofs.calc.refusals.end_script.Goals as goal

pub returns-in-Refused-clause-told : goal.returns-in-Refused-clause-told
returns-in-Refused-clause-told g c =
    told_as _ c.in-Refused.cause c.in-Refused.line _ _ _ _ c.in-Refused.is c.rule_of.ensures c.refuse-in-Refused.ensures
