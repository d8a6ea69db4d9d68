use Rattle.std.proofs.Common.{◌≡◌, ◌+◌, ◌-◌, ◌≤◌, length, take, ℕ, List, Option}
use Rattle.box_code.specs.Machine.{flat_outs, outs_in}
use Rattle.box_machine.specs.inner.PutOutputs.{OutsFit, on_top, put_from}
use Rattle.box_machine.specs.inner.Stepping.{objects_in}
use Rattle.box_machine.proofs.outputs.write_outputs.Given as goal

abbrev pub invariant-writing : goal.invariant-writing
invariant-writing l = record {
  few : l.number ≤ length l.outs;
  base : l.base ≡ (l.top - outs_in l.mask l.outs) + outs_in l.mask (take l.number l.outs);
  put : (flat : List (Option (List ℕ)))
      → OutsFit (flat_outs l.types (objects_in l.heap) l.outs l.mask (on_top (outs_in l.mask l.outs) l.words l.top)) l.fn.out flat
      → l.out ≡ put_from l.number l.fn.out flat;
}

abbrev pub decreases-writing : goal.decreases-writing
decreases-writing l = l.number
