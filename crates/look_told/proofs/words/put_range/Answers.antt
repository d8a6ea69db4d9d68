use Rattle.look_sources.proofs.Growing.{grows_by, grows_more, grows_none}
use Rattle.look_told.proofs.words.put_range.Goals as goal

pub returns : goal.returns
returns c =
    grows_more c.put_word.ensures (grows_by c.put-2.ensures (grows_more c.put_most.ensures (grows_by c.number.ensures (grows_by c.put.ensures (grows_none _)))))
