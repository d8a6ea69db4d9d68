use Rattle.std.proofs.Common.{subst}
use Rattle.turn_workers.specs.inner.Rows.{AreRows}
use Rattle.turn_workers.proofs.Rowed.{rows_even, rows_odd}
use Rattle.turn_workers.proofs.ways.Ways.make.Goals as goal

pub returns : goal.returns
returns c =
    let plan = c.args.plan.now in
    record {
      even = rows_even plan c.requires.0 c.in_ok-inputs.inputs
          (subst (λ ends. AreRows ends plan.nodes c.in_ok-inputs.inputs) c.as_slice.ensures c.in_ok-inputs.ensures);
      odd = rows_odd plan c.in_ok-outputs.outputs
          (subst (λ ends. AreRows ends plan.nodes c.in_ok-outputs.outputs) c.as_slice-2.ensures c.in_ok-outputs.ensures);
    }
