use Rattle.std.proofs.Common.{◌≡◌, take}
use Rattle.hume_net.proofs.copying.copy_outputs.Given as goal

abbrev pub invariant-loop-out : goal.invariant-loop-out
invariant-loop-out l = l.copies ≡ take l.out-index l.outs
