use Rattle.std.proofs.Common.{◌≡◌}
use Rattle.trials.proofs.net.make_steps.Given as goal

abbrev pub invariant-loop-step : goal.invariant-loop-step
invariant-loop-step l = l.net.core ≡ l.initial.net.core
