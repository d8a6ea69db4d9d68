use Rattle.parse_expressions.proofs.ExpLoops.{exp_left}
use Rattle.parse_expressions.proofs.expressions.expression.Goals as goal

pub returns-clause-shorter : goal.returns-clause-shorter
returns-clause-shorter c = exp_left 64 c.args.rest.now c.in_ok-found.rest.now _ c.in_ok-found.ensures
