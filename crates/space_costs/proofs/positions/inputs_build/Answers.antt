use Rattle.std.proofs.Common.{sym, ap}
use Rattle.space_costs.specs.inner.Standing.{counted}
use Rattle.space_costs.proofs.PositionSteps.{none_built}
use Rattle.space_costs.proofs.positions.inputs_build.Goals as goal

pub loop-i-init : goal.loop-i-init
loop-i-init c = ap counted (sym (none_built c.args.types.now c.args.ins.now c.args.pats.now c.min-i.result c.min-i.ensures))
