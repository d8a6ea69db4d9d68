use Rattle.run_log.proofs.Halves.{begun, ended}
use Rattle.run_log.proofs.net.Net.next.Goals as goal

pub returns-in-Whole-clause-state : goal.returns-in-Whole-clause-state
returns-in-Whole-clause-state c = begun c.args.self c.in-Whole.engine c.execute.result c.in-Whole.is c.execute.ensures.state

pub returns-in-Midst-clause-state : goal.returns-in-Midst-clause-state
returns-in-Midst-clause-state c = ended c.args.self c.in-Midst.halfway c.super_step.result c.in-Midst.is c.super_step.ensures.state
