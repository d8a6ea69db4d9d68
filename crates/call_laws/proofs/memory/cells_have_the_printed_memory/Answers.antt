use Rattle.run_rounds.proofs.TypedInputs.{inputs_typed}
use Rattle.hume_calls.proofs.Runnable.{handles, runnable}
use Rattle.call_laws.proofs.CellMemory.{cell_memory, round_opens, run_opens}
use Rattle.call_laws.proofs.memory.cells_have_the_printed_memory.Goals as goal

pub returns-clause-runs : goal.returns-clause-runs
returns-clause-runs c text accepted is texts coming are =
    let run = runnable text accepted is in
    run_opens accepted.core run.formed run.agree (handles text accepted is) coming.good (inputs_typed accepted.core run texts coming are)

pub returns-clause-rounds : goal.returns-clause-rounds
returns-clause-rounds c opening steps within = round_opens opening within steps

pub returns-clause-cells : goal.returns-clause-cells
returns-clause-cells c opening within = cell_memory opening within
