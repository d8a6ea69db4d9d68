use Rattle.std.proofs.Common.{◌≡◌, drop, slice_get}
use Rattle.std.specs.List.{find}
use Rattle.hume_model.specs.Firing.{rule_fits}
use Rattle.hume_model.proofs.firing.first_fitting.Given as goal

abbrev pub invariant-loop-number : goal.invariant-loop-number
invariant-loop-number l =
    find (λ number. rule_fits l.ins (slice_get l.rules number)) (drop l.number-index l.order)
    ≡ find (λ number. rule_fits l.ins (slice_get l.rules number)) l.order
