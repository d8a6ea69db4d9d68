use Rattle.code_laws.proofs.Handlers.{handler_runs}
use Rattle.code_laws.proofs.laws.handlers_run.Goals as goal

pub returns : goal.returns
returns c = λ core sound b typed s same outs entry stand number handler there carried is m word stack low stands rep.
    handler_runs core sound s entry stand same b typed outs handler (typed.handlers number handler there) carried is m word stack low stands rep
