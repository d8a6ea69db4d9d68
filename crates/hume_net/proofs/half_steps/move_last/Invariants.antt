use Rattle.std.proofs.Common.{◌≡◌, take, ◌==◌, not}
use Rattle.std.specs.List.{filter}
use Rattle.hume_net.proofs.half_steps.move_last.Given as goal

abbrev pub invariant-loop-other : goal.invariant-loop-other
invariant-loop-other l = l.moved ≡ filter (λ other. not (other == l.rule)) (take l.other-index l.order)
