use Rattle.std.proofs.Common.{◌≡◌, ◌≤◌, length}
use Rattle.box_code.specs.Machine.{Setting}
use Rattle.box_machine.specs.inner.Stepping.{IsOf, Keeps, ended, machine_in}
use Rattle.box_machine.proofs.code_run.run_code.Given as goal

abbrev pub invariant-loop-new : goal.invariant-loop-new
invariant-loop-new l = record {
  same : (setting : Setting) → IsOf l.program setting → ended setting l.left (machine_in l.registers l.words l.heap) ≡ ended setting l.fn.most
      (machine_in l.fn.start l.fn.words l.fn.heap);
  top : l.registers.top ≤ length l.words;
  kept : Keeps l.fn.heap l.heap;
}

abbrev pub decreases-loop-new : goal.decreases-loop-new
decreases-loop-new l = l.left
