use Rattle.std.proofs.Common.{◌∙◌}
use Rattle.match_rules.proofs.Fitting.{first_fits}
use Rattle.match_rules.proofs.choosing.first_match.Goals as goal

pub returns : goal.returns
returns c = λ cells values at are.
    c.first_passing.ensures cells at ∙ first_fits c.args.core.now c.requires.core c.args.b.now c.requires.typed cells values are c.args.order.now
