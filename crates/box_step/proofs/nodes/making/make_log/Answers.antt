use Rattle.std.proofs.Common.{sym, subst}
use Rattle.hume_streams.specs.declared.log.OutLog.{OutLog}
use Rattle.hume_streams.specs.Logs.{log_view}
use Rattle.box_step.specs.nodes.Right.{IsRightLog}
use Rattle.box_step.proofs.nodes_lemmas.FirstCells.{first_logged}
use Rattle.box_step.proofs.nodes.making.make_log.Goals as goal

pub returns : goal.returns
returns c = λ opening program opens begins.
    subst (λ (log : OutLog). IsRightLog opening c.args.number 0 (log_view log)) (sym c.in_ok-new.ensures.ok)
    (first_logged opening c.args.core.now opens c.args.number c.args.span program begins c.requires.there.0 c.requires.there.1
    (log_view c.in_ok-log.log) c.in_ok-log.ensures)
