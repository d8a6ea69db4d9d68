use Rattle.check_tables.proofs.graph_lemmas.ProgressSteps.{progress_passed}
use Rattle.check_tables.proofs.graph.numbering.pass_numbered.Goals as goal

pub returns-clause-progress : goal.returns-clause-progress
returns-clause-progress c =
    progress_passed c.args.graph.now c.args.progress.now c.requires c.first_unmarked-progress.result (rw c.as_slice.ensures at (rw c.len.ensures at c.first_unmarked-progress.ensures))
