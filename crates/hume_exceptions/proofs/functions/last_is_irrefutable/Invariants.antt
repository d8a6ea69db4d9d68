use Rattle.std.proofs.Common.{◌≡◌, drop, false}
use Rattle.hume_model.specs.Completeness.{is_irrefutable_equation}
use Rattle.hume_exceptions.proofs.Lasts.{last_or}
use Rattle.hume_exceptions.proofs.functions.last_is_irrefutable.Given as goal

abbrev pub invariant-loop-equation : goal.invariant-loop-equation
invariant-loop-equation l = last_or is_irrefutable_equation l.last (drop l.equation-index l.equations) ≡ last_or is_irrefutable_equation false l.equations
