use Rattle.std.proofs.Common.{◌≡◌, map, take}
use Rattle.box_heap.specs.Outputs.{absent}
use Rattle.box_heap.proofs.out_buf.OutBuf.make.Given as goal

abbrev pub invariant-loop-size : goal.invariant-loop-size
invariant-loop-size l = l.outputs.items ≡ map absent (take l.size-index l.sizes)
