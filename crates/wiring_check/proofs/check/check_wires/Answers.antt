use Rattle.std.proofs.Common.{subst}
use Rattle.hume_base.specs.Least.{IsLeast}
use Rattle.hume_model.specs.WireRules.{BreaksWires}
use Rattle.wiring_check.proofs.TheWires.{their_wiring}
use Rattle.wiring_check.proofs.check.check_wires.Goals as goal

pub returns-in-None-clause-wiring : goal.returns-in-None-clause-wiring
returns-in-None-clause-wiring c =
    let core = c.args.core.now in
    their_wiring core (subst (λ o. IsLeast (BreaksWires core) o) c.in-None.is c.least_broken.ensures) c.in_ok-inputs.inputs c.in_ok-outputs.outputs c.in_ok-inputs.ensures c.in_ok-outputs.ensures
    c.of.result c.of.ensures.inputs c.of.ensures.outputs
