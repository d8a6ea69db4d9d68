use Rattle.check_tables.proofs.graph.numbering.whole_progress.Goals as goal

pub returns-clause-whole : goal.returns-clause-whole
returns-clause-whole c = c.in_ok-number_next.ensures.whole c.if-branch.false
