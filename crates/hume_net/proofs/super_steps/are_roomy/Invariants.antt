use Rattle.std.proofs.Common.{◌≡◌, drop}
use Rattle.hume_net.specs.HalfSteps.{have_room}
use Rattle.hume_net.proofs.super_steps.are_roomy.Given as goal

abbrev pub invariant-loop-i : goal.invariant-loop-i
invariant-loop-i l = have_room (drop l.i l.values) (drop l.i l.rooms) ≡ have_room l.values l.rooms
