use Rattle.look_sources.proofs.Growing.{grows_by, grows_none}
use Rattle.look_reasons.proofs.counts.put_counts.Goals as goal

pub returns-clause-note : goal.returns-clause-note
returns-clause-note c =
    grows_by c.put-5.ensures (grows_by c.number-2.ensures (grows_by c.put-4.ensures (grows_by c.number.ensures (grows_by c.put-3.ensures (grows_by c.put-2.ensures (grows_by c.put.ensures (grows_none _)))))))
