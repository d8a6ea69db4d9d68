use Rattle.std.proofs.Common.{◌≡◌, false}
use Rattle.hume_model.specs.Operations.{is_place}
use Rattle.box_machine.proofs.Reaching.{index_there, index_raises}
use Rattle.box_machine.proofs.objects.index.Goals as goal

pub returns-then-not-is_place : goal.returns-then-not-is_place
returns-then-not-is_place c = λ setting of.
    let able = c.requires.can in
    let is : is_place c.args.count c.word_at-place.result ≡ false = cc in
    index_raises setting c.args.count c.args.registers c.args.words.now c.args.heap.now c.word_at-vector.result c.word_at-place.result
    (index_there able.0 c.args.count c.args.registers c.args.words.now c.args.heap.now able.1 c.requires.top) c.requires.top c.word_at-vector.ensures
    c.word_at-place.ensures
    c.args.program.now c.hand_over.result c.hand_over.new.words c.requires.held is of c.hand_over.ensures
