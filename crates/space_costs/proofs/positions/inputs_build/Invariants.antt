use Rattle.std.proofs.Common.{◌≡◌, drop}
use Rattle.hume_model.specs.BoxTyping.{port_types}
use Rattle.box_costs.specs.Bounds.{inputs_build}
use Rattle.space_costs.specs.inner.Standing.{counted}
use Rattle.space_costs.proofs.positions.inputs_build.Given as goal

abbrev pub invariant-loop-i : goal.invariant-loop-i
invariant-loop-i l = l.total ≡ counted (inputs_build l.types (port_types (drop l.i l.ins)) (drop l.i l.pats))
