use Rattle.box_heap.proofs.Sliding.{room_left, slid}
use Rattle.box_heap.proofs.stack.BoxStack.slide.Goals as goal

pub put_back-requires : goal.put_back-requires
put_back-requires c = room_left c.args.self.now c.pop-word.new.self c.drop_last.new.self c.args.count c.pop-word.ensures.left c.drop_last.ensures c.requires c.keeps_room.ensures

pub returns : goal.returns
returns c = λ word same. slid c.args.self.now c.pop-word.new.self c.drop_last.new.self c.args.count c.pop-word.ensures.left c.drop_last.ensures c.requires c.put_back.new.self c.pop-word.result word
    c.put_back.ensures c.pop-word.ensures.word same
