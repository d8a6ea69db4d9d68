use Rattle.hume_console.specs.Hands.{place_without}
use Rattle.hume_console.proofs.Placing.{IsMoved}
use Rattle.hume_console.proofs.places.leave.Given as goal

abbrev pub invariant-loop-i : goal.invariant-loop-i
invariant-loop-i l = IsMoved (place_without l.gone) l.i l.initial.places l.places
