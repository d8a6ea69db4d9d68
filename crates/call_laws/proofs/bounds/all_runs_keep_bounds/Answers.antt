use Rattle.hume_net.specs.Start.{no_values}
use Rattle.run_rounds.proofs.TypedInputs.{inputs_typed}
use Rattle.hume_calls.specs.Unions.{union_core}
use Rattle.hume_calls.proofs.Rewritten.{new_runnable}
use Rattle.hume_calls.proofs.Runnable.{runnable}
use Rattle.hume_calls.proofs.UnionOwed.{union_runs}
use Rattle.call_laws.proofs.InBounds.{in_bounds, nothing_typed}
use Rattle.call_laws.proofs.bounds.all_runs_keep_bounds.Goals as goal

pub returns-clause-source : goal.returns-clause-source
returns-clause-source c text accepted is texts coming are =
    let run = runnable text accepted is in
    in_bounds accepted.core run coming.good (inputs_typed accepted.core run texts coming are)

pub returns-clause-calc : goal.returns-clause-calc
returns-clause-calc c text sound is script new made texts coming are =
    let run = new_runnable text sound is script new made in
    in_bounds new run coming.good (inputs_typed new run texts coming are)

pub returns-clause-union : goal.returns-clause-union
returns-clause-union c first others programs are within texts coming come =
    let run = union_runs first others programs are within in
    in_bounds (union_core programs) run coming.good (inputs_typed (union_core programs) run texts coming come)

pub returns-clause-demo : goal.returns-clause-demo
returns-clause-demo c number accepted is =
    in_bounds accepted.core (runnable _ accepted is) (no_values accepted.core) (nothing_typed accepted.core)
