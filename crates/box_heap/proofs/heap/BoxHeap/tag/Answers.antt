use Rattle.box_heap.proofs.Objects.{place_within, tag_of}
use Rattle.box_heap.proofs.heap.BoxHeap.tag.Goals as goal

pub word-requires : goal.word-requires
word-requires c = place_within c.args.self.now c.requires.0 c.requires.1 c.args.at c.requires.2 c.requires.3

pub returns : goal.returns
returns c = λ objects object has found. tag_of c.args.self.now objects has c.args.at object found c.word.result c.word.ensures
