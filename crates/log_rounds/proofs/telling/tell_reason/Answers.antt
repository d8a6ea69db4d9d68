use Rattle.log_rounds.specs.declared.verifying.Stop.TheVariants.{Bad, Wrong}
use Rattle.log_rounds.proofs.Tellings.{reason_as}
use Rattle.log_rounds.proofs.telling.tell_reason.Goals as goal

pub returns-in-Wrong-clause-ends : goal.returns-in-Wrong-clause-ends
returns-in-Wrong-clause-ends g c = reason_as c.args.core.now c.args.stop (Wrong c.in-Wrong.fault) _ _ _ c.in-Wrong.is c.tell_fault.ensures.ends

pub returns-in-Bad-clause-ends : goal.returns-in-Bad-clause-ends
returns-in-Bad-clause-ends g c = reason_as c.args.core.now c.args.stop (Bad c.in-Bad.bad) _ _ _ c.in-Bad.is c.tell_bad_line.ensures.ends
