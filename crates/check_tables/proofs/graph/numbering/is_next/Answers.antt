use Rattle.std.proofs.Common.{sym}
use Rattle.check_tables.proofs.graph_lemmas.ProgressSteps.{progress_wait}
use Rattle.check_tables.proofs.graph.numbering.is_next.Goals as goal

pub returns-in-Some-clause-progress : goal.returns-in-Some-clause-progress
returns-in-Some-clause-progress c = rw (sym c.set-in-Some.ensures) at (rw (sym c.row_of-row.ensures) at (rw (sym c.set.ensures) at (progress_wait c.args.graph.now c.args.progress.now c.requires.progress c.args.a c.in-Some.k c.requires.within (rw c.as_slice-3.ensures at (rw c.as_slice-2.ensures at (rw c.row_of-row.ensures at (rw c.len.ensures at c.in-Some.ensures)))))))
