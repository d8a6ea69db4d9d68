use Rattle.std.proofs.Common.{◌≡◌, drop}
use Rattle.c_analysis.specs.Targets.{target}
use Rattle.c_boxes.specs.Marks.{outputs_mark}
use Rattle.c_boxes.proofs.uses.mark_outputs.Given as goal

abbrev pub invariant-loop-out : goal.invariant-loop-out
invariant-loop-out l = outputs_mark (target l.s) (drop l.out-index l.outs) l.used.items ≡ outputs_mark (target l.s) l.outs l.initial.used.items
