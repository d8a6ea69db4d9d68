use Rattle.look_sources.proofs.Growing.{grows_by, grows_more, grows_none}
use Rattle.look_cores.proofs.bounds.put_total.Goals as goal

pub returns-then-words-from : goal.returns-then-words-from
returns-then-words-from c =
    grows_more c.put_limit.ensures (grows_by c.number-then-words-from.ensures (grows_by c.put-then-words-from.ensures (grows_by c.put-3.ensures (grows_by c.number-2.ensures (grows_by c.put-2.ensures (grows_by c.number.ensures (grows_by c.put.ensures (grows_none _))))))))

pub returns-else-words-from : goal.returns-else-words-from
returns-else-words-from c =
    grows_by c.put-3.ensures (grows_by c.number-2.ensures (grows_by c.put-2.ensures (grows_by c.number.ensures (grows_by c.put.ensures (grows_none _)))))
